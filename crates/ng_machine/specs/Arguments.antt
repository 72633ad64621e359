-- The fields of a message's arguments: a number is its bytes, the lowest first, and a name stands in 32 bytes up to its
-- first NUL (netgraph(4)).
use Rattle.std.specs.Prelude.{ℕ, if◌then◌else◌, List, take, drop, Option, Some, None}
use Rattle.byteorder.specs.Endian.{little_number}
use Rattle.ng_base.specs.Name.{is_name}
use Rattle.ng_message.specs.Fields.{field_text}

-- the number of n bytes at a place
abbrev pub number_at : ℕ → List ℕ → ℕ → ℕ
number_at n args at = little_number n (drop at args)

-- the text in the field of 32 bytes at a place
abbrev pub text_at : List ℕ → ℕ → List ℕ
text_at args at = field_text (take 32 (drop at args))

-- the name in the field at a place, unless what stands there is no name
abbrev pub read_name : List ℕ → ℕ → Option (List ℕ)
read_name args at = if is_name (text_at args at) then Some (text_at args at) else None
