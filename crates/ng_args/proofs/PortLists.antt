-- Ports that were read, in front of those that are still to be read.
use Rattle.std.proofs.Common.{ℕ, List, ◌++◌, map, drop, Option, Some, None}
use Rattle.ng_args.specs.declared.port.PortWord.{PortWord}
use Rattle.ng_args.specs.declared.port.PortForm.{PortForm}
use Rattle.ng_args.specs.Ports.{ports_of}

abbrev pub onto : List PortWord → Option (List PortWord) → Option (List PortWord)
onto ports None = None
onto ports (Some more) = Some (ports ++ more)

-- the ports of the words from place `i` on
abbrev pub from_place : {W : Type 0} → (W → List ℕ) → PortForm → ℕ → List W → Option (List PortWord)
from_place text form i words = ports_of form (map text (drop i words))
