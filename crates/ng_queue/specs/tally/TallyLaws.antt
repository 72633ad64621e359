-- The numbers are those of the world, through each change.
use Rattle.std.specs.Prelude.{◌≡◌, ◌+◌, ◌^◌, [], ◌∷◌, ◌++◌}
use Rattle.ng_base.specs.declared.ids.NodeId.{NodeId}
use Rattle.ng_machine.specs.declared.item.Item.{Item}
use Rattle.ng_machine.specs.Words.{Has}
use Rattle.ng_machine.specs.World.{World}
use Rattle.ng_machine.specs.Change.{items_of, retire}
use Rattle.ng_machine.specs.Effect.{take_out, finish, drop_hook_gone}
use Rattle.ng_machine.specs.LowRun.{IsLow}
use Rattle.ng_machine.specs.Run.{stop}
use Rattle.ng_queue.specs.tie.Tie.{IsSorted}
use Rattle.ng_queue.specs.tally.Tally.{tally_of, accepted, done_with, without_hook, without_node, stopped, HasNumbers, HasCounted, Counts}

-- the world with one item more
abbrev pub with_item : World → Item → World
with_item w item = record w { pending = w.pending ++ item ∷ []; next_item = w.next_item + 1 }

pub record CountsAreOfWorld : Type 0 where
  pub accept : (w : World) (item : Item) → tally_of (with_item w item) ≡ accepted (tally_of w) item
  pub done : (w : World) (item : Item) → IsSorted 0 w.pending → Has item w.pending → tally_of (finish (take_out w item.id) item.id) ≡ done_with (tally_of w) item
  pub hook_gone : (w : World) (item : Item) → IsSorted 0 w.pending → Has item w.pending → tally_of (drop_hook_gone (take_out w item.id) item.id) ≡ without_hook (tally_of w) item
  pub retire : (w : World) (at : NodeId) → tally_of (retire w at) ≡ without_node (tally_of w) (items_of w at)
  pub stop : (w : World) → tally_of (stop w) ≡ stopped (tally_of w)

-- what the methods ask is so of worlds of runs
pub record CountsAreLow : Type 0 where
  pub low : (w : World) → IsLow w → HasNumbers (2 ^ 62) (tally_of w)
  pub one : (w : World) (item : Item) → IsSorted 0 w.pending → Has item w.pending → Counts (tally_of w) item
  pub some : (w : World) (at : NodeId) → HasCounted (tally_of w) (items_of w at)
