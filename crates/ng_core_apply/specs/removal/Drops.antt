-- Where room is needed for what follows of items that are dropped with their node.
use Rattle.std.specs.Prelude.{◌≡◌, ℕ, ◌+◌, ◌<◌, ◌≤◌, ◌==◌, Bool, false, List, length, vec_len, vec_capacity, Option, Some, None}
use Rattle.ng_base.specs.declared.ids.NodeId.{NodeId}
use Rattle.ng_machine.specs.declared.body.Body.{Body}
use Rattle.ng_machine.specs.declared.body.Body.TheVariants.{Join2}
use Rattle.ng_machine.specs.declared.hook.Hook.{Hook}
use Rattle.ng_machine.specs.declared.item.Item.{Item}
use Rattle.ng_machine.specs.Words.{times}
use Rattle.ng_machine.specs.Change.{items_of}
use Rattle.ng_machine.specs.Run.{RunState}
use Rattle.ng_machine.specs.World.{NodeRecord, node_id, node_in}
use Rattle.ng_queue.specs.Queues.{spare_at}
use Rattle.ng_queue.specs.declared.entry.Entry.{Entry}
use Rattle.ng_queue.specs.declared.entry.Entry.TheVariants.{Waiting, Out}
use Rattle.ng_queue.specs.pending.Holds.{NoneOut}
use Rattle.ng_queue.specs.tally.Tally.{HasNumbers}
use Rattle.ng_core_state.specs.Stands.{Stands}
use Rattle.ng_core_state.specs.declared.state.State.{State}

-- the node at which a first end is to be taken away again
abbrev pub undone_by : Body → Option NodeId
undone_by (Join2 hook link peer peer_hook) = Some peer
undone_by _ = None

abbrev pub is_node : ℕ → Option NodeId → Bool
is_node n None = false
is_node n (Some node) = node.0 == n

-- how many of the items have one taken away at a node
abbrev pub undoes : List Item → ℕ → ℕ
undoes items n = times (λ (item : Item). is_node n (undone_by item.body)) items

-- the same of entries, of which those that are out don't count
abbrev pub undone_of : Entry → Option NodeId
undone_of (Waiting item) = undone_by item.body
undone_of (Out mark) = None

abbrev pub undoes_in : List Entry → ℕ → ℕ
undoes_in entries n = times (λ (entry : Entry). is_node n (undone_of entry)) entries

-- each node that is there has room for so many
abbrev pub HasRoomThere : {B : Type 0} → (ℕ → ℕ) → State B → Type 0
HasRoomThere wanted s = (n : ℕ) (node : NodeRecord) → node_in s.graph.nodes (node_id n) ≡ Some node → wanted n ≤ spare_at s.pending.queues.spares n

-- a node may go: nothing of it is taken, and there is room for what follows of what waits for it
pub record MayGo {B : Type 0} (s : State B) (at : NodeId) (a : RunState) : Type 0 where
  pub stands : Stands s a
  pub none : NoneOut a at.0
  pub room : (n : ℕ) → n < length s.pending.queues.lists → undoes (items_of a.world at) n ≤ spare_at s.pending.queues.spares n
  pub told : vec_len s.told + length (items_of a.world at) ≤ vec_capacity s.told
  pub numbers : HasNumbers (length (items_of a.world at)) s.pending.tally

-- how many of the hooks have their peer at a node
abbrev pub peers : List Hook → ℕ → ℕ
peers hooks n = times (λ (hook : Hook). n == hook.peer.node.0) hooks
