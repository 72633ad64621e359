-- An address, computed: which head and hooks bytes are the address of. netgraph(4), "Addressing": a node and a
-- colon, and then the hooks to walk along, with dots between them; or the hooks alone, from the node itself.
-- That it computes the grammar is the law `ReadsAddress`.
use Rattle.std.specs.Prelude.{◌≡◌, ℕ, ◌-◌, Bool, true, false, not, ◌&&◌, ◌||◌, ◌==◌, nat_lt, nat_le, if◌then◌else◌, List, [], ◌∷◌, length, take, drop, Option, Some, None}
use Rattle.std.specs.List.{list_all}
use Rattle.std.specs.Str.{bytes_eq}
use Rattle.std.specs.Str.Parse.{digits_value}
use Rattle.std.specs.Char.{digit_value}
use Rattle.ng_base.specs.Name.{is_name}
use Rattle.ng_path.specs.declared.path.Head.{Head}
use Rattle.ng_path.specs.declared.path.Head.TheVariants.{Local, Named, Id}
use Rattle.ng_path.specs.Grammar.{IsPath}
use Rattle.ng_path.specs.Segments.{cut_at, hook_names, has_bytes}

-- where it begins, and the hooks from there on
pub record Address : Type 0 where
  pub head : Head
  pub hooks : List (List ℕ)

abbrev pub begins_with : ℕ → List ℕ → Bool
begins_with byte [] = false
begins_with byte (b ∷ bytes) = b == byte

-- Hooks: names with a dot between them, and perhaps one dot in front and one behind

abbrev pub without_dot : List ℕ → List ℕ
without_dot [] = []
without_dot (b ∷ bytes) = if b == 0x2e then bytes else b ∷ bytes

abbrev pub are_names : List (List ℕ) → Bool
are_names [] = true
are_names (segment ∷ []) = is_name segment || not (has_bytes segment)
are_names (segment ∷ next ∷ others) = is_name segment && are_names (next ∷ others)

abbrev pub read_hooks : List ℕ → Option (List (List ℕ))
read_hooks text = if are_names (cut_at 0x2e (without_dot text)) then Some (hook_names text) else None

-- The node: a dot, or a number of 1 to 8 hexadecimal digits in brackets, or a name without a bracket in front

abbrev pub is_digit : ℕ → Bool
is_digit byte = nat_lt (digit_value byte) 16

abbrev pub read_digits : List ℕ → Option Head
read_digits digits =
    if nat_le 1 (length digits) && (nat_le (length digits) 8 && list_all is_digit digits)
    then Some (Id (record { 0 = digits_value 16 digits }))
    else None

-- what stands between brackets
abbrev pub read_brackets : List ℕ → Option Head
read_brackets text =
    if bytes_eq (drop (length text - 1) text) (0x5d ∷ [])
    then read_digits (drop 1 (take (length text - 1) text))
    else None

abbrev pub read_node : List ℕ → Option Head
read_node text =
    if bytes_eq text (0x2e ∷ []) then Some Local
    else if begins_with 0x5b text then read_brackets text
    else if is_name text then Some (Named text)
    else None

-- Together

abbrev pub address_of : Option Head → Option (List (List ℕ)) → Option Address
address_of None hooks = None
address_of (Some head) None = None
address_of (Some head) (Some hooks) = Some (record { head = head; hooks = hooks })

abbrev pub read_segments : List (List ℕ) → Option Address
read_segments [] = None
read_segments (hooks ∷ []) = if has_bytes hooks then address_of (Some Local) (read_hooks hooks) else None
read_segments (node ∷ hooks ∷ []) = address_of (read_node node) (read_hooks hooks)
read_segments (node ∷ hooks ∷ next ∷ others) = None

-- at most 511 bytes, cut at the colon
abbrev pub read_address : List ℕ → Option Address
read_address bytes = if nat_le (length bytes) 511 then read_segments (cut_at 0x3a bytes) else None

-- the computed address is the one that the bytes are, and there is none where they are invalid
abbrev pub ReadsAddress : Type 0
ReadsAddress =
    (bytes : List ℕ) (head : Head) (hooks : List (List ℕ))
    → (read_address bytes ≡ Some (record { head = head; hooks = hooks }) → IsPath bytes head hooks)
    × (IsPath bytes head hooks → read_address bytes ≡ Some (record { head = head; hooks = hooks }))
