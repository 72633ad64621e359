-- The answers of `list`, `show` and `types` as ngctl(8) prints them. Their bytes are those of struct namelist, hooklist
-- and typelist (ng_message.h): a count or a node, and then structures of one size, one behind the other.
use Rattle.std.specs.Prelude.{◌≡◌, ℕ, ◌+◌, ◌*◌, ◌==◌, Bool, true, false, if◌then◌else◌, List, [], ◌++◌, length, drop, codes}
use Rattle.std.specs.Fmt.{decimal}
use Rattle.std.specs.List.{flat_map, range_with_len}
use Rattle.ngctl_print.specs.listing.Fields.{line_feed, left_in, column, eight_digits, name_at, number_at, or_unnamed}

-- the lines of so many structures of one size; `line` is told the bytes from its structure's first on
abbrev pub lines_of : (List ℕ → List ℕ) → ℕ → ℕ → List ℕ → List ℕ
lines_of line size n bytes = flat_map (λ number. line (drop (size * number) bytes)) (range_with_len 0 n)

-- a node (struct nodeinfo, 72 bytes): its name and type, its number, and how many hooks are joined
unfoldable pub node_names : List ℕ → List ℕ
node_names node = codes "  Name: " ++ (left_in 15 (or_unnamed (name_at 0 node)) ++ (codes " Type: " ++ left_in 15 (name_at 32 node)))

unfoldable pub node_id : List ℕ → List ℕ
node_id node = codes " ID: " ++ eight_digits (number_at 64 node)

unfoldable pub node_hooks : List ℕ → List ℕ
node_hooks node = codes "   Num hooks: " ++ (decimal (number_at 68 node) ++ line_feed)

abbrev pub node_line : List ℕ → List ℕ
node_line node = node_names node ++ (node_id node ++ node_hooks node)

unfoldable pub list_head : Bool → ℕ → List ℕ
list_head named n = codes "There are " ++ (decimal n ++ (codes " total " ++ ((if named then codes "named nodes:" else codes "nodes:") ++ line_feed)))

-- `list`: all nodes, or with -n those that have a name
abbrev pub list_text : Bool → List ℕ → List ℕ
list_text named bytes = list_head named (number_at 0 bytes) ++ lines_of node_line 72 (number_at 0 bytes) (drop 4 bytes)

-- the node at the other end of a hook (struct nodeinfo): its name, type and number
unfoldable pub peer_columns : List ℕ → List ℕ
peer_columns node = column 15 (or_unnamed (name_at 0 node)) ++ (column 12 (name_at 32 node) ++ column 15 (eight_digits (number_at 64 node)))

-- a hook (struct linkinfo, 136 bytes): its name, its peer, and the peer's hook
unfoldable pub hook_line : List ℕ → List ℕ
hook_line link = codes "  " ++ (column 15 (name_at 0 link) ++ (peer_columns (drop 64 link) ++ (name_at 32 link ++ line_feed)))

unfoldable pub hook_heads : List ℕ
hook_heads =
    codes "  Local hook      Peer name       Peer type    Peer ID         Peer hook" ++ (line_feed
    ++ (codes "  ----------      ---------       ---------    -------         ---------" ++ line_feed))

-- heads, and a line for each hook; nothing where there are no hooks
abbrev pub hooks_text : ℕ → List ℕ → List ℕ
hooks_text n links = if n == 0 then [] else hook_heads ++ lines_of hook_line 136 n links

-- `show`: a node, and unless only the node was asked for (-n) its hooks
abbrev pub show_text : Bool → List ℕ → List ℕ
show_text true bytes = node_line bytes
show_text false bytes = node_line bytes ++ hooks_text (number_at 68 bytes) (drop 72 bytes)

-- a type (struct typeinfo, 36 bytes): its name, and how many nodes are of it
unfoldable pub type_line : List ℕ → List ℕ
type_line kind = codes "  " ++ (column 15 (name_at 0 kind) ++ (decimal (number_at 32 kind) ++ line_feed))

unfoldable pub types_head : ℕ → List ℕ
types_head n = codes "There are " ++ (decimal n ++ (codes " types:" ++ line_feed))

-- `types`: the types of nodes
abbrev pub types_text : List ℕ → List ℕ
types_text bytes = types_head (number_at 0 bytes) ++ lines_of type_line 36 (number_at 0 bytes) (drop 4 bytes)

-- a count, and as many structures of that size
abbrev pub IsCounted : ℕ → List ℕ → Type 0
IsCounted size bytes = length bytes ≡ 4 + size * number_at 0 bytes

-- a node, and unless only the node was asked for as many links as it has joined hooks
abbrev pub IsShown : Bool → List ℕ → Type 0
IsShown true bytes = length bytes ≡ 72
IsShown false bytes = length bytes ≡ 72 + 136 * number_at 68 bytes
