-- Which bytes are which address, said by writing it. netgraph(4), "Addressing": an absolute address is a node
-- and a colon, and a relative one begins at the node on which it is used; the hooks behind it are walked in
-- order and have dots between them. ngctl(8) writes the same addresses. The bytes are those of ASCII: 0x2e is
-- `.`, 0x3a `:`, 0x5b `[` and 0x5d `]`.
use Rattle.std.specs.Prelude.{◌≡◌, ◌≢◌, ◌<◌, ◌≤◌, ℕ, ◌⊎◌, List, [], ◌∷◌, ◌++◌, length}
use Rattle.std.specs.List.{AllByRecursion, join_with_byte}
use Rattle.std.specs.Str.Parse.{AllDigits, digits_value}
use Rattle.ng_base.specs.Name.{IsName}
use Rattle.ng_path.specs.declared.path.Head.{Head}
use Rattle.ng_path.specs.declared.path.Head.TheVariants.{Local, Named, Id}

-- 1 to 8 hexadecimal digits of either case that write the number; zeros may stand in front (ngctl(8), `[id]`)
pub record IsIdText (digits : List ℕ) (id : ℕ) : Type 0 where
  pub some : 0 < length digits
  pub few : length digits ≤ 8
  pub digits_only : AllDigits 16 digits
  pub value : id ≡ digits_value 16 digits

-- the text of a node: `.` for the node itself, its number in brackets, or its name; a name that begins with a
-- bracket can't be written, since it would be taken for a number (netgraph(4), ngctl(8))
abbrev pub IsNodeText : List ℕ → Head → Type 0
IsNodeText text Local = text ≡ 0x2e ∷ []
IsNodeText text (Named name) = (text ≡ name) × IsName name × ((rest : List ℕ) → name ≢ 0x5b ∷ rest)
IsNodeText text (Id id) = (digits : List ℕ) × IsIdText digits id.0 × (text ≡ 0x5b ∷ (digits ++ 0x5d ∷ []))

abbrev pub IsDotOrNothing : List ℕ → Type 0
IsDotOrNothing text = (text ≡ []) ⊎ (text ≡ 0x2e ∷ [])

-- the text of a walk along hooks: their names with a dot between them (netgraph(4)), and one dot may stand in
-- front and one behind; where no hook is named one dot may stand alone (this project's choice)
pub record IsHookText (text : List ℕ) (hooks : List (List ℕ)) : Type 0 where
  pub front : List ℕ
  pub back : List ℕ
  pub names : AllByRecursion IsName hooks
  pub leading : IsDotOrNothing front
  pub trailing : IsDotOrNothing back
  pub lone : hooks ≡ [] → back ≡ []
  pub whole : text ≡ front ++ (join_with_byte 0x2e hooks ++ back)

-- a node, a colon, and a walk from there
pub record IsFromNode (bytes : List ℕ) (head : Head) (hooks : List (List ℕ)) : Type 0 where
  pub node : List ℕ
  pub walk : List ℕ
  pub node_text : IsNodeText node head
  pub hook_text : IsHookText walk hooks
  pub whole : bytes ≡ node ++ 0x3a ∷ walk

-- a walk alone, from the node itself; some byte has to stand there
pub record IsFromHere (bytes : List ℕ) (head : Head) (hooks : List (List ℕ)) : Type 0 where
  pub here : head ≡ Local
  pub some : bytes ≢ []
  pub hook_text : IsHookText bytes hooks

-- the bytes are the address of this head and these hooks, of at most 511 bytes (NG_PATHSIZ of netgraph(3) is
-- 512 with the NUL)
pub record IsPath (bytes : List ℕ) (head : Head) (hooks : List (List ℕ)) : Type 0 where
  pub short : length bytes ≤ 511
  pub form : IsFromNode bytes head hooks ⊎ IsFromHere bytes head hooks
