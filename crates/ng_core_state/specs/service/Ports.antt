-- A packet leaves by a port.
use Rattle.std.specs.Prelude.{ℕ, ◌+◌, List, [], ◌∷◌, ◌++◌, slice_index_or, slice_set}
use Rattle.ng_base.specs.declared.ids.Stamp.{Stamp}
use Rattle.ng_machine.specs.World.{Port, blank_port}

-- the port of that number is changed, where there is one
abbrev pub change_port : ℕ → (Port → Port) → List Port → List Port
change_port at f ports = slice_set ports at (f (slice_index_or ports at blank_port))

-- by its wire, and to its host
abbrev pub with_packet : Stamp → List ℕ → Port → Port
with_packet stamp packet port = record port { leaving = port.leaving ++ (stamp, packet) ∷ [] }

abbrev pub with_one_up : Port → Port
with_one_up port = record port { up = port.up + 1 }
