-- Changes one after another, and numbers.
use Rattle.std.proofs.Common.{◌≡◌, ℕ, ◌≤◌, List, [], ◌∷◌, ◌++◌, refl, arith}
use Rattle.std.specs.Prelude.{Result, Ok, Err, OnOk}
use Rattle.ng_base.specs.declared.ids.NodeId.{NodeId}
use Rattle.ng_base.specs.declared.ids.Stamp.{Stamp}
use Rattle.ng_machine.specs.Change.{Change, change, change_all}
use Rattle.ng_machine.specs.World.{World}
use Rattle.ng_queue.specs.declared.tally.tally.Tally.{Tally}
use Rattle.ng_queue.specs.tally.Tally.{HasNumbers}

-- to move to ng_machine
pub change_both : (at : NodeId) (stamp : Stamp) (w : World) (xs ys : List Change) → change_all at stamp w (xs ++ ys) ≡ change_all at stamp (change_all at stamp w xs) ys
change_both at stamp w [] ys = refl
change_both at stamp w (x ∷ xs) ys = change_both at stamp (change at stamp w x) xs ys

-- what is so is so where the call was right
pub on_any : {A E P : Type 0} (r : Result A E) → P → OnOk r P
on_any (Ok x) p = p
on_any (Err x) p = tt

pub on_ok : {A E P Q : Type 0} (r : Result A E) → (P → Q) → OnOk r P → OnOk r Q
on_ok (Ok x) f p = f p
on_ok (Err x) f p = p
