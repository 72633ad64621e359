-- How messages and structures lie in bytes: their fields in order (ng_message.h, described in netgraph(4)).
use Rattle.std.specs.Prelude.{ℕ, List, [], ◌∷◌, ◌++◌, Option, Some, None}
use Rattle.byteorder.specs.Endian.{little_bytes}
use Rattle.ng_base.specs.declared.kind.Kind.{Kind}
use Rattle.ng_base.specs.Kind.{kind_text}
use Rattle.ng_message.specs.declared.message.Header.{Header}
use Rattle.ng_message.specs.declared.message.Msg.{Msg}
use Rattle.ng_message.specs.declared.info.NodeInfo.{NodeInfo}
use Rattle.ng_message.specs.declared.info.LinkInfo.{LinkInfo}
use Rattle.ng_message.specs.Fields.{name_field, text_or_empty}

-- 56 bytes, 1 + 1 + 2 + 5 * 4 + 32 (the header of struct ng_mesg)
abbrev pub header_bytes : Header → List ℕ
header_bytes header =
    header.version ∷ header.spare ∷ []
    ++ little_bytes 2 header.spare2
    ++ little_bytes 4 header.arglen
    ++ little_bytes 4 header.cmd
    ++ little_bytes 4 header.flags
    ++ little_bytes 4 header.token
    ++ little_bytes 4 header.typecookie
    ++ header.cmdstr

-- the header, and the arguments behind it
abbrev pub message_bytes : Msg → List ℕ
message_bytes msg = header_bytes msg.header ++ msg.args

-- the name of a type, or the empty text
abbrev pub kind_or_empty : Option Kind → List ℕ
kind_or_empty None = []
kind_or_empty (Some kind) = kind_text kind

-- 72 bytes: name, type, number and joined hooks (struct nodeinfo)
abbrev pub node_info_bytes : NodeInfo → List ℕ
node_info_bytes info =
    name_field (text_or_empty info.name)
    ++ name_field (kind_or_empty info.kind)
    ++ little_bytes 4 info.id.0
    ++ little_bytes 4 info.hooks

-- 136 bytes: our hook, the peer's hook, and the peer (struct linkinfo)
abbrev pub link_info_bytes : LinkInfo → List ℕ
link_info_bytes info = name_field info.ourhook ++ name_field info.peerhook ++ node_info_bytes info.peer
