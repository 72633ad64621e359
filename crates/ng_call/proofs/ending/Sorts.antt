-- Faults of a sort: where none is looked for, read or written in each part, none is in the whole.
use Rattle.std.proofs.Common.{Bool, true, false, if◌then◌else◌, List, [], ◌∷◌, ◌++◌, option_map, Option, Some, None}
use Rattle.ng_call.specs.ending.Causes.{NoneChecked, NoneReads, NoneWrites}
use Rattle.ng_call.specs.ending.Steps.{Step, Reads, Checks}
use Rattle.ng_call.specs.ending.Writes.{Write}

module _ {F : Type 0} (P : F → Type 0) where
  pub both_checked : (a b : List (Step F)) → NoneChecked P a → NoneChecked P b → NoneChecked P (a ++ b)
  both_checked [] b first second = second
  both_checked (Reads name failed ∷ a) b first second = both_checked a b first second
  both_checked (Checks None ∷ a) b first second = both_checked a b first second
  both_checked (Checks (Some found) ∷ a) b first second = (first.0, both_checked a b first.1 second)

  pub if_checked : (test : Bool) (fault : F) (rest : List (Step F)) → (P fault → ⊥) → NoneChecked P rest
      → NoneChecked P (Checks (if test then Some fault else None) ∷ rest)
  if_checked true fault rest nope later = (nope, later)
  if_checked false fault rest nope later = later

  pub map_checked : {X : Type 0} (x : Option X) (make : X → F) (rest : List (Step F)) → ((y : X) → P (make y) → ⊥)
      → NoneChecked P rest → NoneChecked P (Checks (option_map make x) ∷ rest)
  map_checked None make rest nope later = later
  map_checked (Some y) make rest nope later = (nope y, later)

  pub both_reads : (a b : List (Step F)) → NoneReads P a → NoneReads P b → NoneReads P (a ++ b)
  both_reads [] b first second = second
  both_reads (Reads name failed ∷ a) b first second = (first.0, both_reads a b first.1 second)
  both_reads (Checks found ∷ a) b first second = both_reads a b first second

  pub both_written : (a b : List (Write F)) → NoneWrites P a → NoneWrites P b → NoneWrites P (a ++ b)
  both_written [] b first second = second
  both_written (w ∷ a) b first second = (first.0, both_written a b first.1 second)

  pub if_written : (test : Bool) (w : Write F) (ws : List (Write F)) → (P w.failed → ⊥) → NoneWrites P ws
      → NoneWrites P (if test then w ∷ ws else ws)
  if_written true w ws nope rest = (nope, rest)
  if_written false w ws nope rest = rest

-- a sort within another one
module _ {F : Type 0} (P Q : F → Type 0) (within : (f : F) → Q f → P f) where
  pub less_checked : (steps : List (Step F)) → NoneChecked P steps → NoneChecked Q steps
  less_checked [] none = tt
  less_checked (Reads name failed ∷ steps) none = less_checked steps none
  less_checked (Checks None ∷ steps) none = less_checked steps none
  less_checked (Checks (Some found) ∷ steps) none = ((λ is. none.0 (within found is)), less_checked steps none.1)

  pub less_read : (steps : List (Step F)) → NoneReads P steps → NoneReads Q steps
  less_read [] none = tt
  less_read (Reads name failed ∷ steps) none = ((λ is. none.0 (within failed is)), less_read steps none.1)
  less_read (Checks found ∷ steps) none = less_read steps none

  pub less_written : (ws : List (Write F)) → NoneWrites P ws → NoneWrites Q ws
  less_written [] none = tt
  less_written (w ∷ ws) none = ((λ is. none.0 (within w.failed is)), less_written ws none.1)
