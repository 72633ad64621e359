-- Room for a front of the packets that are sent: for all of them, or for so many that with those that go on as many packets wait as may, so that
-- the others are lost.
use Rattle.std.specs.Prelude.{ℕ, ◌+◌, ◌≤◌, ◌⊎◌, List, length, take, Option}
use Rattle.ng_base.specs.declared.ids.NodeId.{NodeId}
use Rattle.ng_machine.specs.Change.{most_frames}
use Rattle.ng_machine.specs.Words.{times}
use Rattle.ng_machine.specs.World.{NodeRecord, hook_at, node_in}
use Rattle.ng_queue.specs.declared.pending.pending.Pending.{Pending}
use Rattle.ng_queue.specs.pending.Room.{HasRoom}
use Rattle.ng_topology.specs.Topology.{Topology}
use Rattle.ng_core_state.specs.Room.{goes_on, wants}

-- how many of the packets go on where packets may wait
abbrev pub goers : List (Option NodeRecord) → NodeId → List (List ℕ × List ℕ) → ℕ
goers nodes from sends = times (λ (x : List ℕ × List ℕ). goes_on nodes (hook_at (node_in nodes from) x.0)) sends

-- all packets are among the first so many, or as many wait once these are sent as may, also where so many that wait now are done
abbrev pub IsEnough : ℕ → Topology → NodeId → List (List ℕ × List ℕ) → Pending → ℕ → Type 0
IsEnough done t from sends p front = (length sends ≤ front) ⊎ (most_frames + done ≤ p.tally.frames + goers t.nodes from (take front sends))

-- there is room for a front of what a node sends, and for so many items more of each node
pub record HasFront (done : ℕ) (t : Topology) (from : NodeId) (more : ℕ → ℕ) (sends : List (List ℕ × List ℕ)) (p : Pending) : Type 0 where
  pub front : ℕ
  pub room : HasRoom (λ n. more n + wants (node_in t.nodes from) (take front sends) n) p
  pub enough : IsEnough done t from sends p front
