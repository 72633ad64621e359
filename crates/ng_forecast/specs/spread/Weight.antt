-- How many bytes a spread takes.
use Rattle.std.specs.Prelude.{ℕ, ◌+◌, List, [], ◌∷◌, length}
use Rattle.ng_machine.specs.declared.place.Place.{Place}
use Rattle.ng_machine.specs.declared.place.Place.TheVariants.{Wire, Host, Reader}
use Rattle.ng_machine.specs.Spread.{Spread}

-- a packet that leaves takes its bytes and 16 more; one that goes to a host is only counted
abbrev pub weight_at : Place → List ℕ → ℕ
weight_at (Wire port) bytes = 16 + length bytes
weight_at (Host port) bytes = 0
weight_at (Reader hook) bytes = 16 + length bytes

abbrev pub weight : Spread → ℕ
weight [] = 0
weight (pair ∷ spread) = weight_at pair.0 pair.1 + weight spread
