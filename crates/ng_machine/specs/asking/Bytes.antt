-- What the questions of netgraph(4) are answered, as bytes (ng_message.h: struct nodeinfo, hooklist, namelist, typelist).
use Rattle.std.specs.Prelude.{ℕ, List, ◌++◌, map, flat_map}
use Rattle.byteorder.specs.Endian.{little_bytes}
use Rattle.ng_base.specs.declared.kind.Kind.{Kind}
use Rattle.ng_base.specs.Kind.{kind_text}
use Rattle.ng_message.specs.Fields.{name_field}
use Rattle.ng_message.specs.Layout.{link_info_bytes, node_info_bytes}
use Rattle.ng_message.specs.declared.info.LinkInfo.{LinkInfo}
use Rattle.ng_message.specs.declared.info.NodeInfo.{NodeInfo}
use Rattle.ng_machine.specs.Generic.{with_count}

-- a node, and then its links
abbrev pub hook_list_bytes : NodeInfo → List LinkInfo → List ℕ
hook_list_bytes info links = node_info_bytes info ++ flat_map link_info_bytes links

-- how many nodes, and then each
abbrev pub name_list_bytes : List NodeInfo → List ℕ
name_list_bytes nodes = with_count (map node_info_bytes nodes)

-- a type's name, and how many nodes are of it
abbrev pub type_bytes : Kind × ℕ → List ℕ
type_bytes row = name_field (kind_text row.0) ++ little_bytes 4 row.1

abbrev pub type_list_bytes : List (Kind × ℕ) → List ℕ
type_list_bytes rows = with_count (map type_bytes rows)
