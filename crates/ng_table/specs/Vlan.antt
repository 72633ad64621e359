-- ng_vlan(4).
use Rattle.std.specs.Prelude.{ℕ, List, [], ◌∷◌, ◌+◌, codes}
use Rattle.ng_shape.specs.Shape.{Shape}
use Rattle.ng_table.specs.Message.{Message, message, read_only, has_answer, none, u8, u16, u32, x32, s32, structure, counted_by}

-- struct ng_vlan_filter, with the priority bits of IEEE 802.1Q
abbrev pub vlan_filter : Shape
vlan_filter = structure ((codes "hook", s32) ∷ (codes "vlan", u16) ∷ (codes "pcp", u8) ∷ (codes "cfi", u8) ∷ [])

-- a filter for each number of a VLAN, which has twelve bits
abbrev pub most_vlans : ℕ
most_vlans = 4096

-- struct ng_vlan_table
abbrev pub vlan_table : Shape
vlan_table = structure ((codes "n", u32) ∷ (codes "filter", counted_by (codes "n") most_vlans vlan_filter) ∷ [])

-- A filter is deleted by the name of its hook. The last two, of the tag's type, are this project's own.
abbrev pub vlan_messages : List Message
vlan_messages =
    message (codes "addfilter") 1 vlan_filter none
    ∷ message (codes "delfilter") 2 s32 none
    ∷ message (codes "gettable") (3 + read_only + has_answer) none vlan_table
    ∷ message (codes "settagtype") 4 x32 none
    ∷ message (codes "gettagtype") (5 + read_only + has_answer) none x32
    ∷ []
