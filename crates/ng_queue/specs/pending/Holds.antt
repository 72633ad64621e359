-- How queues and counts stand for the pending items of a run.
use Rattle.std.specs.Prelude.{◌≡◌, ℕ, ◌<◌, ◌++◌, ◌∷◌, [], Bool, true, false, List, length}
use Rattle.ng_base.specs.declared.cause.Cause.TheVariants.{Spool}
use Rattle.ng_machine.specs.declared.item.Item.{Item}
use Rattle.ng_machine.specs.Words.{Has}
use Rattle.ng_machine.specs.Change.{lose, spool_with}
use Rattle.ng_machine.specs.Effect.{take_out, finish, drop_hook_gone}
use Rattle.ng_machine.specs.Run.{RunState, Taken}
use Rattle.ng_machine.specs.World.{World}
use Rattle.ng_queue.specs.declared.tally.tally.Tally.{Tally}
use Rattle.ng_queue.specs.tally.Tally.{tally_of}
use Rattle.ng_queue.specs.tie.Tie.{Tied, IsSorted, IsOnce, is_out, taking, untaken}
use Rattle.ng_queue.specs.declared.pending.pending.Pending.{Pending}

pub record Holds (p : Pending) (t : Tally) (pending : List Item) (taken : List Taken) : Type 0 where
  -- numbers ascend, and are below the next one
  pub sorted : IsSorted 0 pending
  pub below : (item : Item) → Has item pending → item.id.0 < t.next_item
  pub old : (x : Taken) → Has x taken → x.id.0 < t.next_item
  pub once : IsOnce taken
  -- each item's node has a queue
  pub known : (item : Item) → Has item pending → item.to.0 < length p.queues.lists
  pub tied : Tied p.queues.lists taken pending
  pub tally : p.tally ≡ t
  pub out : p.out ≡ length taken

abbrev pub HoldsItems : Pending → RunState → Type 0
HoldsItems p a = Holds p (tally_of a.world) a.world.pending a.taken

-- for some run
abbrev pub IsHolding : Pending → Type 0
IsHolding p = (a : RunState) × HoldsItems p a

-- Runs after a change

abbrev pub in_world : RunState → World → RunState
in_world a w = record a { world = w }

abbrev pub with_taken : RunState → ℕ → ℕ → RunState
with_taken a id seat = record a { taken = a.taken ++ taking id seat ∷ [] }

abbrev pub with_untaken : RunState → ℕ → RunState
with_untaken a id = record a { taken = untaken id a.taken }

-- the item is no longer pending or taken: it is done, or dropped since its hook is gone
abbrev pub done_from : RunState → Item → RunState
done_from a item = record a { world = finish (take_out a.world item.id) item.id; taken = untaken item.id.0 a.taken }

abbrev pub dropped_from : RunState → Item → RunState
dropped_from a item = record a { world = drop_hook_gone (take_out a.world item.id) item.id; taken = untaken item.id.0 a.taken }

-- the bytes of a packet that leaves are counted where there is room, and else it is lost
abbrev pub spooled : Bool → World → List ℕ → World
spooled true w packet = record w { spool = spool_with w packet }
spooled false w packet = lose Spool w

-- What the calls ask

-- the item is pending and taken
abbrev pub IsOutIn : RunState → Item → Type 0
IsOutIn a item = Has item a.world.pending × (is_out item.id.0 a.taken ≡ true)

-- nothing of the node is taken
abbrev pub NoneOut : RunState → ℕ → Type 0
NoneOut a n = (item : Item) → Has item a.world.pending → item.to.0 ≡ n → is_out item.id.0 a.taken ≡ false
