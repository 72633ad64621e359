-- An item that is applied is done and makes its changes, or is dropped.
use Rattle.std.proofs.Common.{◌≡◌, ◌∙◌, List, true, false, refl, ap, Bool}
use Rattle.std.proofs.lemmas.Bool.{eq-eqb, eqb-true}
use Rattle.std.specs.List.{find}
use Rattle.std.specs.declared.option.Option.{Option}
use Rattle.std.specs.declared.option.Option.TheVariants.{Some}
use Rattle.ng_machine.specs.declared.item.Item.{Item}
use Rattle.ng_machine.specs.Body.{has_id}
use Rattle.ng_machine.specs.Change.{change_all}
use Rattle.ng_machine.specs.Effect.{apply, apply_found, apply_if, effect, effect_at, finish, is_hook_gone, take_out}
use Rattle.ng_machine.specs.Run.{RunState}
use Rattle.ng_machine.specs.Words.{Has}
use Rattle.ng_machine.specs.World.{NodeRecord, World}
use Rattle.ng_machine.proofs.Standing.{of_find, to_find}
use Rattle.ng_queue.specs.tie.Tie.{IsSorted, untaken}
use Rattle.ng_queue.proofs.tie.SortedItems.{sorted_one}
use Rattle.ng_queue.specs.pending.Holds.{done_from, dropped_from}
use Rattle.ng_core_state.specs.step.Applied.{ItemsAreApplied, IsAtNode, applied_from, changed_from}

-- an item is found by its number
found : (items : List Item) (item : Item) → IsSorted 0 items → Has item items → find (has_id item.id) items ≡ Some item
found items item s h =
    let f = to_find (has_id item.id) item items h (eq-eqb item.id.0 item.id.0 refl) in
    let o = of_find (has_id item.id) f.0 items f.1 in
    f.1 ∙ ap Some (sorted_one 0 items f.0 item s o.0 h (eqb-true f.0.id.0 item.id.0 o.1))

-- it is applied by whether its hook is gone
applied : (a : RunState) (item : Item) (node : NodeRecord) (gone : Bool) → IsAtNode a item node → is_hook_gone (Some node) item.body ≡ gone
    → apply a.world item.id ≡ apply_if (take_out a.world item.id) item gone
applied a item node gone at is =
    ap (apply_found a.world) (found a.world.pending item at.sorted at.out.0)
    ∙ ap (λ (o : Option NodeRecord). apply_if (take_out a.world item.id) item (is_hook_gone o item.body)) at.here
    ∙ ap (apply_if (take_out a.world item.id) item) is

-- the run with this world, without the item among those taken
abbrev in_place : RunState → Item → World → RunState
in_place a item w = record a { world = w; taken = untaken item.id.0 a.taken }

done : (a : RunState) (item : Item) (node : NodeRecord) → IsAtNode a item node → is_hook_gone (Some node) item.body ≡ false
    → applied_from a item ≡ changed_from (done_from a item) item (effect_at (done_from a item).world item node item.body)
done a item node at is =
    let w : World = finish (take_out a.world item.id) item.id in
    let e : apply a.world item.id ≡ change_all item.to item.stamp w (effect_at w item node item.body) =
    applied a item node false at is ∙ ap (λ (o : Option NodeRecord). change_all item.to item.stamp w (effect w item o)) at.here in
    ap (in_place a item) e

dropped : (a : RunState) (item : Item) (node : NodeRecord) → IsAtNode a item node → is_hook_gone (Some node) item.body ≡ true → applied_from a item ≡ dropped_from a item
dropped a item node at is = ap (in_place a item) (applied a item node true at is)

pub items_are_applied : ItemsAreApplied
items_are_applied = record { done = done; dropped = dropped }
