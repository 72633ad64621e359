-- ng_one2many(4).
use Rattle.std.specs.Prelude.{List, [], ◌∷◌, ◌+◌, codes}
use Rattle.ng_shape.specs.Shape.{Shape, Array}
use Rattle.ng_table.specs.Message.{Message, message, read_only, has_answer, none, u8, u32, i32, structure, counters}

-- struct ng_one2many_config
abbrev pub one2many_config : Shape
one2many_config = structure ((codes "xmitAlg", u32) ∷ (codes "failAlg", u32) ∷ (codes "enabledLinks", Array 64 u8) ∷ [])

-- struct ng_one2many_link_stats
abbrev pub one2many_stats : Shape
one2many_stats = counters (
    codes "recvOctets" ∷ codes "recvPackets" ∷ codes "xmitOctets" ∷ codes "xmitPackets" ∷
    codes "memoryFailures" ∷ [])

-- statistics are asked of a link by its number, and of the hook `one` by -1
abbrev pub one2many_messages : List Message
one2many_messages =
    message (codes "setconfig") 1 one2many_config none
    ∷ message (codes "getconfig") (2 + read_only + has_answer) none one2many_config
    ∷ message (codes "getstats") (3 + has_answer) i32 one2many_stats
    ∷ message (codes "clrstats") 4 i32 none
    ∷ message (codes "getclrstats") (5 + has_answer) i32 one2many_stats
    ∷ []
