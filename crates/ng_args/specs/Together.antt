-- What is asked of ports and files that are named together.
use Rattle.std.specs.Prelude.{ℕ, Bool, true, false, ◌&&◌, nat_le, List, [], ◌∷◌, length, map, filter}
use Rattle.ng_args.specs.declared.port.PortWord.{PortWord}
use Rattle.ng_args.specs.Lists.{are_apart}
use Rattle.ng_base.specs.Names.{are_different}

abbrev pub most_ports : ℕ
most_ports = 64

-- few enough ports, whose names and the own name are all different
abbrev pub are_ports : List ℕ → List PortWord → Bool
are_ports own ports = nat_le (length ports) most_ports && are_different (own ∷ map (λ port. port.name) ports)

abbrev pub is_file : List ℕ → Bool
is_file [] = false
is_file (b ∷ bytes) = true

-- the files that ports name
abbrev pub ins : List PortWord → List (List ℕ)
ins ports = filter is_file (map (λ port. port.in_file) ports)

abbrev pub outs : List PortWord → List (List ℕ)
outs ports = filter is_file (map (λ port. port.out_file) ports)

-- the files of the first list have names that no other file has; those of the second are only read, and may be the same
abbrev pub are_files : List (List ℕ) → List (List ℕ) → Bool
are_files lone read = are_different lone && are_apart lone read
