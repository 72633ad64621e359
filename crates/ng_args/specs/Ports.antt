-- Words that name a port and its files.
use Rattle.std.specs.Prelude.{ℕ, ◌==◌, nat_lt, if◌then◌else◌, List, [], ◌∷◌, length, Option, Some, None}
use Rattle.std.specs.List.{list_any, position_or_len, before_first, after_first}
use Rattle.ng_args.specs.declared.port.PortWord.{PortWord}
use Rattle.ng_args.specs.declared.port.PortForm.{PortForm}
use Rattle.ng_args.specs.declared.port.PortForm.TheVariants.{InAndOut, InAlone}
use Rattle.ng_args.specs.Names.{is_node_name}

-- what stands before the first such byte of a word, and what stands behind it; None where there is no such byte
abbrev pub split_at : ℕ → List ℕ → Option (List ℕ × List ℕ)
split_at byte word =
    if nat_lt (position_or_len (λ b. b == byte) word) (length word)
    then Some (before_first (λ b. b == byte) word, after_first (λ b. b == byte) word) else None

abbrev pub equals : ℕ
equals = 0x3d

abbrev pub comma : ℕ
comma = 0x2c

abbrev pub one_comma : Option (List ℕ × List ℕ) → Option (List ℕ × List ℕ)
one_comma None = None
one_comma (Some files) = if list_any (λ b. b == comma) files.1 then None else Some files

-- IN and OUT. IN,OUT has exactly one comma; in IN alone a comma is a byte like any other, and nothing is written
abbrev pub files_of : PortForm → List ℕ → Option (List ℕ × List ℕ)
files_of InAndOut files = one_comma (split_at comma files)
files_of InAlone files = Some (files, [])

abbrev pub port_if : List ℕ → Option (List ℕ × List ℕ) → Option PortWord
port_if name None = None
port_if name (Some files) = if is_node_name name then Some (record { name = name; in_file = files.0; out_file = files.1 }) else None

abbrev pub port_parts : PortForm → Option (List ℕ × List ℕ) → Option PortWord
port_parts form None = None
port_parts form (Some parts) = port_if parts.0 (files_of form parts.1)

-- PORT=IN,OUT or PORT=IN, split at the first `=`
abbrev pub port_of : PortForm → List ℕ → Option PortWord
port_of form word = port_parts form (split_at equals word)

abbrev pub with_port : Option PortWord → Option (List PortWord) → Option (List PortWord)
with_port None ports = None
with_port (Some port) None = None
with_port (Some port) (Some ports) = Some (port ∷ ports)

-- each word as a port, where all of them are one
abbrev pub ports_of : PortForm → List (List ℕ) → Option (List PortWord)
ports_of form [] = Some []
ports_of form (word ∷ words) = with_port (port_of form word) (ports_of form words)
