-- What a call does before its run, in order: it reads files, and looks for faults in what it read. `F` is the type of faults.
use Rattle.std.specs.Prelude.{◌≡◌, ◌⊎◌, ℕ, List, [], ◌∷◌, Option, Some, None}
use Rattle.ng_outside.specs.Contents.{Contents, NotTold, NoFile, Holds}
use Rattle.ng_call.specs.ending.Outside.{Outside, FileRose}

pub data Step (F : Type 0) : Type 0 where
  Reads : List ℕ → F → Step F  -- the file of this name is read; the fault where the read fails
  Checks : Option F → Step F  -- a fault is looked for: the one that is there, or none

-- a read goes well unless the file is told to be missing
abbrev pub MayBeThere : Contents → Type 0
MayBeThere NotTold = Unit {0}
MayBeThere NoFile = ⊥
MayBeThere (Holds bytes) = Unit {0}

abbrev pub unless_missing : {F : Type 0} → Contents → F → Option F → Option F
unless_missing NotTold failed later = later
unless_missing NoFile failed later = Some failed
unless_missing (Holds bytes) failed later = later

-- the first fault that is there: of a file that is missing, or one that is looked for
abbrev pub first_fault : {F : Type 0} → (List ℕ → Contents) → List (Step F) → Option F
first_fault files [] = None
first_fault files (Reads name failed ∷ steps) = unless_missing (files name) failed (first_fault files steps)
first_fault files (Checks None ∷ steps) = first_fault files steps
first_fault files (Checks (Some found) ∷ steps) = Some found

-- the steps stop with this fault: the first one that is looked for and found, or that of a read before it that failed, and
-- then the file's count of faults rose
abbrev pub Refuses : {F : Type 0} → Outside → List (Step F) → F → Type 0
Refuses o [] fault = ⊥
Refuses o (Reads name failed ∷ steps) fault =
    ((fault ≡ failed) × FileRose o name) ⊎ (MayBeThere (o.old.files name) × Refuses o steps fault)
Refuses o (Checks None ∷ steps) fault = Refuses o steps fault
Refuses o (Checks (Some found) ∷ steps) fault = fault ≡ found
