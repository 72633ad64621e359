-- Of which nodes the boxes are lent.
use Rattle.std.specs.Prelude.{◌≡◌, ℕ, true, false, List, Some}
use Rattle.ng_machine.specs.declared.item.Item.{Item}
use Rattle.ng_machine.specs.Desk.{Writes, job_at}
use Rattle.ng_machine.specs.Run.{Taken}
use Rattle.ng_machine.specs.Words.{Has}
use Rattle.ng_machine.specs.World.{NodeRecord, node_in, node_id, state_of}
use Rattle.ng_queue.specs.tie.Tie.{is_out}
use Rattle.ng_topology.specs.Topology.{Topology, is_home}

-- a writer of this node is taken, and is worked on with the box
pub record WriterOut (node : NodeRecord) (pending : List Item) (taken : List Taken) (n : ℕ) : Type 0 where
  pub item : Item
  pub is_pending : Has item pending
  pub node_is : item.to.0 ≡ n
  pub is_taken : is_out item.id.0 taken ≡ true
  pub writes : item.writer ≡ true
  pub job : job_at item (Some node) ≡ Writes item (state_of node)

-- the box of a node that is there is away only where a writer of the node has it
abbrev pub Lent : Topology → List Item → List Taken → Type 0
Lent t pending taken = (n : ℕ) (node : NodeRecord) → node_in t.nodes (node_id n) ≡ Some node → is_home t (node_id n) ≡ false → WriterOut node pending taken n
