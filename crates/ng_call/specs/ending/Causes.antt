-- Where each way of ending comes.
use Rattle.std.specs.Prelude.{◌≡◌, ◌⊎◌, List, [], ◌∷◌, Option, Some, None}
use Rattle.ng_call.specs.ending.Outside.{Outside, FileRose, PlaceRose}
use Rattle.ng_call.specs.ending.Steps.{Step, Reads, Checks, MayBeThere}
use Rattle.ng_call.specs.ending.Writes.{Write}
use Rattle.ng_call.specs.ending.Ends.{Call}

-- The fault is that of a read, and the file's count of faults rose. The read stands in front of every fault that is
-- there: of a file that is missing, or one that is looked for and found.
abbrev pub FailsReading : {F : Type 0} → Outside → List (Step F) → F → Type 0
FailsReading o [] fault = ⊥
FailsReading o (Reads name failed ∷ steps) fault =
    ((fault ≡ failed) × FileRose o name) ⊎ (MayBeThere (o.old.files name) × FailsReading o steps fault)
FailsReading o (Checks None ∷ steps) fault = FailsReading o steps fault
FailsReading o (Checks (Some found) ∷ steps) fault = ⊥

-- the fault is that of a write, and the count of faults of its place rose
abbrev pub FailsWriting : {F : Type 0} → Outside → List (Write F) → F → Type 0
FailsWriting o [] fault = ⊥
FailsWriting o (w ∷ ws) fault = ((fault ≡ w.failed) × PlaceRose o w.place) ⊎ FailsWriting o ws fault

-- the fault comes, unless a read in front of it failed or memory ran out
abbrev pub Comes : {F M : Type 0} → Call F M → Outside → Option F → F → Type 0
Comes {F} call o fault found =
    (fault ≡ Some found)
    ⊎ ((fault ≡ Some call.no_memory) ⊎ ((failed : F) × (fault ≡ Some failed) × FailsReading o call.steps failed))

-- no count of a file that is read rose, and none of a place that is written
abbrev pub NoReadFailed : {F : Type 0} → Outside → List (Step F) → Type 0
NoReadFailed o [] = Unit {0}
NoReadFailed o (Reads name failed ∷ steps) = (FileRose o name → ⊥) × NoReadFailed o steps
NoReadFailed o (Checks found ∷ steps) = NoReadFailed o steps

abbrev pub NoWriteFailed : {F : Type 0} → Outside → List (Write F) → Type 0
NoWriteFailed o [] = Unit {0}
NoWriteFailed o (w ∷ ws) = (PlaceRose o w.place → ⊥) × NoWriteFailed o ws

-- the call ends well, or memory ran out
abbrev pub EndsWell : {F M : Type 0} → Call F M → Option F → Type 0
EndsWell call fault = (fault ≡ None) ⊎ (fault ≡ Some call.no_memory)

-- no fault of a kind is looked for, is that of a read, is that of a write
abbrev pub NoneChecked : {F : Type 0} → (F → Type 0) → List (Step F) → Type 0
NoneChecked P [] = Unit {0}
NoneChecked P (Reads name failed ∷ steps) = NoneChecked P steps
NoneChecked P (Checks None ∷ steps) = NoneChecked P steps
NoneChecked P (Checks (Some found) ∷ steps) = (P found → ⊥) × NoneChecked P steps

abbrev pub NoneReads : {F : Type 0} → (F → Type 0) → List (Step F) → Type 0
NoneReads P [] = Unit {0}
NoneReads P (Reads name failed ∷ steps) = (P failed → ⊥) × NoneReads P steps
NoneReads P (Checks found ∷ steps) = NoneReads P steps

abbrev pub NoneWrites : {F : Type 0} → (F → Type 0) → List (Write F) → Type 0
NoneWrites P [] = Unit {0}
NoneWrites P (w ∷ ws) = (P w.failed → ⊥) × NoneWrites P ws
