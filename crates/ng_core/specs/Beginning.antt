-- A core as it is made, and the graph that it begins with.
use Rattle.std.specs.Prelude.{ℕ, true, false, List, [], ◌∷◌, length, map, replicate, Some, None}
use Rattle.ng_base.specs.declared.kind.Kind.{Kind}
use Rattle.ng_base.specs.declared.kind.Kind.TheVariants.{Ether, Socket}
use Rattle.ng_machine.specs.Stock.{without_kind, without_kinds}
use Rattle.ng_machine.specs.World.{blank_node}
use Rattle.ng_topology.specs.Topology.{Topology}
use Rattle.ng_core.specs.CoreStory.{CoreStory}

-- nothing is fed yet, nobody gave up, and it isn't closed
abbrev pub begun_core : List ℕ → List (List ℕ) → List Kind → ℕ → ℕ → CoreStory
begun_core own ports stock budget seats = record {
  own = own;
  ports = ports;
  stock = stock;
  budget = budget;
  seats = seats;
  inputs = [];
  journal = [];
  gave_up = replicate seats false;
  closed = None;
}

-- node 1 is a socket of the own name, and an ether of each port's name follows; all boxes are at home
abbrev pub start_graph : List ℕ → List (List ℕ) → List Kind → Topology
start_graph own ports stock = record {
  nodes = None ∷ Some (blank_node (Some own) Socket) ∷ map (λ name. Some (blank_node (Some name) Ether)) ports;
  home = false ∷ true ∷ replicate (length ports) true;
  stock = without_kinds (without_kind stock Socket) Ether (length ports);
  next_link = 1;
}
