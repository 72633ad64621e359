-- Changes one after another.
use Rattle.std.proofs.Common.{◌≡◌, List, [], ◌∷◌, ◌++◌, Bool, set, is_some, false, refl, ap, ◌∙◌}
use Rattle.std.specs.declared.option.Option.{Option}
use Rattle.std.specs.declared.option.Option.TheVariants.{Some}
use Rattle.ng_base.specs.declared.ids.NodeId.{NodeId}
use Rattle.ng_base.specs.declared.ids.Stamp.{Stamp}
use Rattle.ng_machine.specs.declared.item.Item.{Item}
use Rattle.ng_machine.specs.Change.{Change, Sets, change, change_all, set_node}
use Rattle.ng_machine.specs.Effect.{effect_at, is_hook_gone}
use Rattle.ng_machine.specs.Run.{RunState}
use Rattle.ng_machine.specs.World.{World, NodeRecord}
use Rattle.ng_queue.specs.pending.Holds.{done_from, in_world}
use Rattle.ng_core_state.specs.step.Applied.{IsAtNode, applied_from, changed_from}
use Rattle.ng_core_state.proofs.step.AppliedItems.{items_are_applied}

-- to move to ng_machine
pub change_both : (at : NodeId) (stamp : Stamp) (w : World) (xs ys : List Change) → change_all at stamp w (xs ++ ys) ≡ change_all at stamp (change_all at stamp w xs) ys
change_both at stamp w [] ys = refl
change_both at stamp w (x ∷ xs) ys = change_both at stamp (change at stamp w x) xs ys

-- an item that changes its node first
pub applied_set : (a : RunState) (item : Item) (node now : NodeRecord) (rest : List Change) → IsAtNode a item node → is_hook_gone (Some node) item.body ≡ false
    → effect_at (done_from a item).world item node item.body ≡ Sets now ∷ rest
    → applied_from a item ≡ in_world (done_from a item) (change_all item.to item.stamp (record ((done_from a item).world) { nodes = set a.world.nodes item.to.0 (Some now) }) rest)
applied_set a item node now rest at stays effect =
    items_are_applied.done a item node at stays
    ∙ ap (λ (l : List Change). changed_from (done_from a item) item l) effect
    ∙ ap (λ (b : Bool). in_world (done_from a item) (change_all item.to item.stamp (set_node (done_from a item).world item.to now b) rest)) (ap (λ (o : Option NodeRecord). is_some o) at.here)

-- and one that doesn't
pub applied_else : (a : RunState) (item : Item) (node : NodeRecord) (rest : List Change) → IsAtNode a item node → is_hook_gone (Some node) item.body ≡ false
    → effect_at (done_from a item).world item node item.body ≡ rest
    → applied_from a item ≡ in_world (done_from a item) (change_all item.to item.stamp (done_from a item).world rest)
applied_else a item node rest at stays effect = items_are_applied.done a item node at stays ∙ ap (λ (l : List Change). changed_from (done_from a item) item l) effect
