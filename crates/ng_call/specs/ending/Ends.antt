-- How a call ends that reads, runs and writes: with no fault, or with the first one that comes. `F` is the type of faults,
-- and `M` that of what the run makes.
use Rattle.std.specs.Prelude.{◌≡◌, ◌⊎◌, List, Option, Some, None}
use Rattle.ng_call.specs.ending.Outside.{Outside, Same}
use Rattle.ng_call.specs.ending.Steps.{Step, first_fault, Refuses}
use Rattle.ng_call.specs.ending.Writes.{Write, WritesAll, StopsAt, StopsFor}

-- what a call is to do
pub record Call (F M : Type 0) : Type 1 where
  pub steps : List (Step F)
  pub nothing : M  -- what is made where the run is not reached
  pub IsPart : M → Type 0  -- what the run may have made when memory runs out in it
  pub IsMade : M → Type 0  -- what the whole run may make
  pub writes : M → List (Write F)
  pub no_memory : F

-- refused before the run
pub record IsRefused {F M : Type 0} (call : Call F M) (o : Outside) (made : M) (fault : F) : Type 0 where
  pub nothing : made ≡ call.nothing
  pub same : Same o.old o.now
  pub cause : (fault ≡ call.no_memory) ⊎ Refuses o call.steps fault

-- memory ran out in the run
pub record IsCutShort {F M : Type 0} (call : Call F M) (o : Outside) (made : M) (fault : F) : Type 0 where
  pub passed : first_fault o.old.files call.steps ≡ None
  pub part : call.IsPart made
  pub same : Same o.old o.now
  pub cause : fault ≡ call.no_memory

-- a write stopped
pub record IsStopped {F M : Type 0} (call : Call F M) (o : Outside) (made : M) (fault : F) : Type 0 where
  pub passed : first_fault o.old.files call.steps ≡ None
  pub ran : call.IsMade made
  pub stops : StopsAt (StopsFor call.no_memory o fault) (call.writes made) o.old o.now

-- all was done
pub record IsDone {F M : Type 0} (call : Call F M) (o : Outside) (made : M) : Type 0 where
  pub passed : first_fault o.old.files call.steps ≡ None
  pub ran : call.IsMade made
  pub written : WritesAll (call.writes made) o.old o.now

abbrev pub Ends : {F M : Type 0} → Call F M → Outside → M → Option F → Type 0
Ends call o made None = IsDone call o made
Ends call o made (Some fault) = IsRefused call o made fault ⊎ (IsCutShort call o made fault ⊎ IsStopped call o made fault)
