-- What holds of each call of a task: how it ends, and where each end comes.
use Rattle.std.specs.Prelude.{◌≡◌, ◌≢◌, ◌⊎◌, ℕ, Option, Some, None}
use Rattle.ng_call.specs.ending.Causes.{Comes, EndsWell, FailsReading, FailsWriting, NoReadFailed, NoWriteFailed}
use Rattle.ng_call.specs.ending.Each.{EachWritten, Keeps, Spares}
use Rattle.ng_call.specs.ending.Ends.{IsDone, IsStopped}
use Rattle.ng_call.specs.ending.Outside.{Outside, Place, Same}
use Rattle.ng_call.specs.ending.Steps.{first_fault}
use Rattle.ng_call.specs.ending.Task.{Task, EndsBy, call_of, memory_status, reading_status, writing_status}

module _ {F M : Type 0} (task : Task F M) where
  -- words that are not in form are the fault, unless memory ran out; and only they are that fault
  pub record UsageComes (said : Option task.Words) (fault : Option F) : Type 0 where
    pub comes : said ≡ None → (fault ≡ Some task.usage) ⊎ (fault ≡ Some task.no_memory)
    pub only : fault ≡ Some task.usage → said ≡ None

  -- the run came to its end: all was written, or a write failed
  abbrev pub HasRun : Option F → Type 0
  HasRun None = Unit {0}
  HasRun (Some f) = task.fault_status f ≡ writing_status

module _ {F M : Type 0} (task : Task F M) (said : Option task.Words) (o : Outside) where
  -- the words are these, and the files tell that they hold this input
  pub record IsGiven (words : task.Words) (input : task.Input) : Type 0 where
    pub said_is : said ≡ Some words
    pub told : task.Tells o.old.files words input

  -- the first fault of what the files tell comes, unless a read in front of it failed or memory ran out
  abbrev pub FaultComes : Option F → Type 0
  FaultComes fault =
      (words : task.Words) (input : task.Input) (due : F) → IsGiven words input
      → first_fault o.old.files (task.steps words input) ≡ Some due → Comes (call_of task words input) o fault due

  -- A fault of reading comes only where a read failed and the count of its file rose. The read stands in front of
  -- every fault that is there, for an input that the files may hold.
  pub record IsUnread (fault : F) : Type 0 where
    pub words : task.Words
    pub said_is : said ≡ Some words
    pub input : task.Input
    pub is_found : task.IsFound o.old.files words input
    pub fails : FailsReading o (task.steps words input) fault

  abbrev pub ReadsOnly : Option F → Type 0
  ReadsOnly fault = (f : F) → fault ≡ Some f → task.fault_status f ≡ reading_status → IsUnread f

  module _ (made : M) where
    -- where there is none, and no count of faults rose, the call ends well, unless memory ran out
    abbrev pub Completes : Option F → Type 0
    Completes fault =
        (words : task.Words) (input : task.Input) → IsGiven words input
        → first_fault o.old.files (task.steps words input) ≡ None → NoReadFailed o (task.steps words input)
        → NoWriteFailed o (task.writes words input made) → EndsWell (call_of task words input) fault

    -- where the call ends well it did everything, for what the files tell
    abbrev pub DoesAll : Option F → Type 0
    DoesAll fault =
        (words : task.Words) (input : task.Input) → IsGiven words input → fault ≡ None
        → IsDone (call_of task words input) o made

    -- where the run came to its end it made what the whole run makes, for what the files tell
    abbrev pub MakesWhole : Option F → Type 0
    MakesWhole fault =
        (words : task.Words) (input : task.Input) → IsGiven words input → HasRun task fault
        → task.IsMade words input made

    -- A fault of writing comes only where a write failed and the count of its place rose, for an input that the files
    -- may hold. Then the run was whole, and of what was to be written, in order, a prefix is written.
    pub record IsCutOff (fault : F) : Type 0 where
      pub words : task.Words
      pub said_is : said ≡ Some words
      pub input : task.Input
      pub is_found : task.IsFound o.old.files words input
      pub fails : FailsWriting o (task.writes words input made) fault
      pub stopped : IsStopped (call_of task words input) o made fault

    abbrev pub LeavesPrefix : Option F → Type 0
    LeavesPrefix fault = (f : F) → fault ≡ Some f → task.fault_status f ≡ writing_status → IsCutOff f

    -- with a fault that is neither that of a write nor of memory nothing was made, and nothing was written
    abbrev pub RefusesQuietly : Option F → Type 0
    RefusesQuietly fault =
        (f : F) → fault ≡ Some f → task.fault_status f ≢ writing_status → task.fault_status f ≢ memory_status
        → (made ≡ task.nothing) × Same o.old o.now

    -- however the call ends, a place that it does not write holds what it held
    abbrev pub KeepsOthers : Type 0
    KeepsOthers =
        (words : task.Words) (input : task.Input) (place : Place) → IsGiven words input
        → Spares place (task.writes words input made) → Keeps place o.old o.now

    -- where it ends well, each place has its bytes
    abbrev pub WritesEach : Option F → Type 0
    WritesEach fault =
        (words : task.Words) (input : task.Input) → IsGiven words input → fault ≡ None
        → EachWritten (task.writes words input made) o.old o.now

    -- the status is that of the fault, and with none that of what was made for what the files tell
    pub record HasStatus (status : ℕ) (fault : Option F) : Type 0 where
      pub failed : (f : F) → fault ≡ Some f → status ≡ task.fault_status f
      pub well :
          (words : task.Words) (input : task.Input) → IsGiven words input → fault ≡ None
          → status ≡ task.status words input made

pub record Behaves {F M : Type 0} (task : Task F M) (said : Option task.Words) (o : Outside) (status : ℕ) (made : M)
    (fault : Option F) : Type 0 where
  pub ends : EndsBy task said o status made fault  -- the way in which it ends, with its cause and its status
  pub status_is : HasStatus task said o made status fault
  pub usage : UsageComes task said fault
  pub comes : FaultComes task said o fault
  pub complete : Completes task said o made fault
  pub done : DoesAll task said o made fault
  pub whole : MakesWhole task said o made fault
  pub reads : ReadsOnly task said o fault
  pub prefix : LeavesPrefix task said o made fault
  pub quiet : RefusesQuietly task said o made fault
  pub others : KeepsOthers task said o made
  pub each : WritesEach task said o made fault
