-- Messages that all nodes know (ng_message.h; netgraph(4), "Standard control messages").
use Rattle.std.specs.Prelude.{List, [], ◌∷◌, ◌+◌, codes}
use Rattle.ng_shape.specs.Shape.{Shape, Str, Counted, Inside}
use Rattle.ng_table.specs.Message.{Message, message, read_only, has_answer, none, u32, x32, s32, structure, counted_by}

-- struct nodeinfo
abbrev pub node_info : Shape
node_info = structure ((codes "name", s32) ∷ (codes "type", s32) ∷ (codes "id", x32) ∷ (codes "hooks", u32) ∷ [])

-- struct linkinfo
abbrev pub link_info : Shape
link_info = structure ((codes "ourhook", s32) ∷ (codes "peerhook", s32) ∷ (codes "nodeinfo", node_info) ∷ [])

-- struct hooklist: as many links as the node says that it has hooks
abbrev pub hook_list : Shape
hook_list = structure ((codes "nodeinfo", node_info) ∷ (codes "linkinfo", Counted (Inside (codes "nodeinfo") (codes "hooks")) 8192 link_info) ∷ [])

-- struct namelist
abbrev pub node_list : Shape
node_list = structure ((codes "numnames", u32) ∷ (codes "nodeinfo", counted_by (codes "numnames") 8192 node_info) ∷ [])

-- struct typelist
abbrev pub type_list : Shape
type_list = structure (
    (codes "numtypes", u32)
    ∷ (codes "typeinfo", counted_by (codes "numtypes") 64 (structure ((codes "type_name", s32) ∷ (codes "numnodes", u32) ∷ [])))
    ∷ [])

abbrev pub mkpeer : Shape
mkpeer = structure ((codes "type", s32) ∷ (codes "ourhook", s32) ∷ (codes "peerhook", s32) ∷ [])

abbrev pub connect : Shape
connect = structure ((codes "path", Str 512) ∷ (codes "ourhook", s32) ∷ (codes "peerhook", s32) ∷ [])

-- The last four are known, and refused by every node.
abbrev pub generic_messages : List Message
generic_messages =
    message (codes "shutdown") 1 none none
    ∷ message (codes "mkpeer") 2 mkpeer none
    ∷ message (codes "connect") 3 connect none
    ∷ message (codes "name") 4 (structure ((codes "name", s32) ∷ [])) none
    ∷ message (codes "rmhook") 5 (structure ((codes "ourhook", s32) ∷ [])) none
    ∷ message (codes "nodeinfo") (6 + read_only + has_answer) none node_info
    ∷ message (codes "listhooks") (7 + read_only + has_answer) none hook_list
    ∷ message (codes "listnames") (8 + read_only + has_answer) none node_list
    ∷ message (codes "listnodes") (9 + read_only + has_answer) none node_list
    ∷ message (codes "listtypes") (10 + read_only + has_answer) none type_list
    ∷ message (codes "textstatus") (11 + read_only + has_answer) none none
    ∷ message (codes "binary2ascii") (12 + read_only + has_answer) none none
    ∷ message (codes "ascii2binary") (13 + read_only + has_answer) none none
    ∷ message (codes "textconfig") 14 none none
    ∷ []
