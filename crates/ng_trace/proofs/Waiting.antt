-- What waits in the queue of a node is what is pending there and not taken.
use Rattle.std.proofs.Common.{◌≡◌, Bool, true, false, cond, not, List, [], ◌∷◌, filter, refl, sym, ap, ◌∙◌}
use Rattle.std.specs.declared.option.Option.{Option}
use Rattle.ng_base.specs.declared.ids.NodeId.{NodeId}
use Rattle.ng_machine.specs.declared.body.Body.{Body}
use Rattle.ng_machine.specs.declared.item.Item.{Item}
use Rattle.ng_machine.specs.Change.{items_of}
use Rattle.ng_machine.specs.Run.{RunState, Taken}
use Rattle.ng_machine.specs.Tests.{is_taken}
use Rattle.ng_machine.specs.World.{NodeRecord}
use Rattle.ng_core_state.specs.declared.state.State.{State}
use Rattle.ng_core_state.specs.Stands.{Stands}
use Rattle.ng_queue.specs.declared.entry.Entry.{Entry}
use Rattle.ng_queue.specs.declared.entry.Entry.TheVariants.{Waiting, Out}
use Rattle.ng_queue.specs.Queue.{mark_of, waiting_items}
use Rattle.ng_queue.specs.Queues.{list_at}
use Rattle.ng_queue.specs.tie.Tie.{entries}
use Rattle.ng_trace.specs.declared.ending.Spot.{Spot}
use Rattle.ng_trace.specs.Endings.{spots}
use Rattle.ng_trace.specs.Watch.{is_waiting, may_retire, spots_if, waiting_at}

wait_cond : (taken : List Taken) (item : Item) (rest : List Entry) (items : List Item) (b : Bool) → waiting_items rest ≡ items
    → waiting_items (cond b (Out (mark_of item)) (Waiting item) ∷ rest) ≡ cond (not b) (item ∷ items) items
wait_cond taken item rest items true e = e
wait_cond taken item rest items false e = ap (λ (l : List Item). item ∷ l) e

untaken_wait : (taken : List Taken) (items : List Item) → waiting_items (entries taken items) ≡ filter (is_waiting taken) items
untaken_wait taken [] = refl
untaken_wait taken (item ∷ items) =
    wait_cond taken item (entries taken items) (filter (is_waiting taken) items) (is_taken taken item.id) (untaken_wait taken items)

-- the queue of a node has it
pub waits_at : {B : Type 0} (s : State B) (a : RunState) (node : NodeId) → Stands s a → waiting_items (list_at s.pending.queues.lists node.0) ≡ waiting_at a node
waits_at s a node S = ap waiting_items (S.items.tied node.0) ∙ untaken_wait a.taken (items_of a.world node)

pub spots_wait : {B : Type 0} (s : State B) (a : RunState) (node : NodeId) → Stands s a
    → spots s.graph.nodes (waiting_items (list_at s.pending.queues.lists node.0)) ≡ spots a.world.nodes (waiting_at a node)
spots_wait s a node S = ap (λ (nodes : List (Option NodeRecord)). spots nodes (waiting_items (list_at s.pending.queues.lists node.0))) S.graph.nodes ∙ ap (spots a.world.nodes) (waits_at s a node S)

module _ {B : Type 0} (s : State B) (out : List Spot) (body : Body) (node : NodeId) (b : Bool) (e : b ≡ may_retire body) where
  -- an item that may take its node away
  pub waiting_is : b ≡ true → out ≡ spots s.graph.nodes (waiting_items (list_at s.pending.queues.lists node.0))
      → (a : RunState) → Stands s a → out ≡ spots_if (may_retire body) a node
  waiting_is may is a S = is ∙ spots_wait s a node S ∙ ap (λ (r : Bool). spots_if r a node) (sym may ∙ e)

  -- another one
  pub waiting_none : b ≡ false → out ≡ [] → (a : RunState) → Stands s a → out ≡ spots_if (may_retire body) a node
  waiting_none stays is a S = is ∙ ap (λ (r : Bool). spots_if r a node) (sym stays ∙ e)
