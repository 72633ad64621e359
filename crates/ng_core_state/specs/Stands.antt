-- How what is kept stands for a run: the graph for its nodes, queues and counts for its items, and what was told and what left.
use Rattle.std.specs.Prelude.{◌≡◌, ◌⊎◌, ◌+◌, ◌≤◌, true, false, length, map}
use Rattle.ng_machine.specs.declared.item.Item.{Item}
use Rattle.ng_machine.specs.Run.{RunState}
use Rattle.ng_machine.specs.SoundRun.{HasNode}
use Rattle.ng_machine.specs.Words.{Has}
use Rattle.ng_machine.specs.World.{Port}
use Rattle.ng_queue.specs.pending.Holds.{HoldsItems}
use Rattle.ng_topology.specs.OfWorld.{IsOfWorld}
use Rattle.ng_topology.specs.Topology.{Topology, is_home}
use Rattle.ng_core_state.specs.declared.state.Port.{Port as KeptPort}
use Rattle.ng_core_state.specs.declared.state.State.{State}
use Rattle.ng_core_state.specs.Lent.{Lent}

abbrev pub port_of : KeptPort → Port
port_of p = record { leaving = p.leaving.items; fed = p.fed; up = p.up }

pub record Stands {B : Type 0} (s : State B) (a : RunState) : Type 0 where
  pub items : HoldsItems s.pending a
  -- each item's node is there, and its mode is that of its body there
  pub there : (item : Item) → Has item a.world.pending → HasNode a.world.nodes item
  pub graph : IsOfWorld s.graph a.world
  pub homes : length s.graph.home ≡ length s.graph.nodes
  pub lent : Lent s.graph a.world.pending a.taken
  -- there is a queue for each node, and for each that can be made
  pub places : length a.world.nodes + length a.world.stock ≤ length s.pending.queues.lists
  pub told : s.told.items ≡ a.world.told
  pub ports : map port_of s.ports.items ≡ a.world.ports

-- for some run
abbrev pub IsStanding : {B : Type 0} → State B → Type 0
IsStanding s = (a : RunState) × Stands s a

-- an item that may leave: a reader, or one whose node is at home
abbrev pub MayLeave : Topology → Item → Type 0
MayLeave t item = (item.writer ≡ false) ⊎ (is_home t item.to ≡ true)
