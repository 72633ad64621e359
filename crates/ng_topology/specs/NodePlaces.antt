-- The nodes by their numbers, of which boxes are at home, and for how many more there is room.
use Rattle.std.specs.Prelude.{ℕ, ◌+◌, ◌≤◌, Bool, List, length, map, Option}
use Rattle.ng_base.specs.declared.kind.Kind.{Kind}
use Rattle.ng_machine.specs.World.{NodeRecord}
use Rattle.ng_topology.specs.NodeEntry.{NodeEntry}
use Rattle.ng_topology.specs.Topology.{node_of, home_of}

pub record NodePlaces : Type 0 where
  pub nodes : List (Option NodeRecord)
  pub home : List Bool
  pub room : ℕ

abbrev pub places_as : List (Option NodeEntry) → ℕ → NodePlaces
places_as entries room = record { nodes = map node_of entries; home = map home_of entries; room = room }

-- there is room for all boxes that are left, and numbers stay far below the end of their type
pub record HasRoom (places : NodePlaces) (stock : List Kind) : Type 0 where
  pub enough : length stock ≤ places.room
  pub few : length places.nodes + places.room ≤ 4000000001
