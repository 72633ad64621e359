-- The run after a taken item is applied: it is done, and then its changes are made; or it is dropped, since its hook is gone.
use Rattle.std.specs.Prelude.{◌≡◌, true, false, List, Option, Some}
use Rattle.std.specs.Option.{option_map}
use Rattle.ng_machine.specs.declared.item.Item.{Item}
use Rattle.ng_machine.specs.Change.{Change, change_all}
use Rattle.ng_machine.specs.Effect.{apply, effect_at, is_hook_gone}
use Rattle.ng_machine.specs.Run.{RunState}
use Rattle.ng_machine.specs.State.{State}
use Rattle.ng_machine.specs.World.{NodeRecord, node_at}
use Rattle.ng_machine.specs.story.Work.{removed_state}
use Rattle.ng_queue.specs.tie.Tie.{IsSorted, untaken}
use Rattle.ng_queue.specs.pending.Holds.{IsOutIn, in_world, done_from, dropped_from}

-- the item is applied, and no longer taken
abbrev pub applied_from : RunState → Item → RunState
applied_from a item = record a { world = apply a.world item.id; taken = untaken item.id.0 a.taken }

-- the changes of an item at its node are made
abbrev pub changed_from : RunState → Item → List Change → RunState
changed_from a item changes = in_world a (change_all item.to item.stamp a.world changes)

-- what comes out of an item that is applied: the box of a node that it removes, and nothing else
abbrev pub ComesOut : {B : Type 0} → (B → State) → Option NodeRecord → Option NodeRecord → Option B → Type 0
ComesOut state before now out = option_map state out ≡ removed_state before now

-- an item that is pending once and taken, at a node that is there
pub record IsAtNode (a : RunState) (item : Item) (node : NodeRecord) : Type 0 where
  pub sorted : IsSorted 0 a.world.pending
  pub out : IsOutIn a item
  pub here : node_at a.world item.to ≡ Some node

-- the two ways of an item that is applied
pub record ItemsAreApplied : Type 0 where
  pub done : (a : RunState) (item : Item) (node : NodeRecord) → IsAtNode a item node → is_hook_gone (Some node) item.body ≡ false
      → applied_from a item ≡ changed_from (done_from a item) item (effect_at (done_from a item).world item node item.body)
  pub dropped : (a : RunState) (item : Item) (node : NodeRecord) → IsAtNode a item node → is_hook_gone (Some node) item.body ≡ true
      → applied_from a item ≡ dropped_from a item
