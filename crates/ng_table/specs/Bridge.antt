-- ng_bridge(4).
use Rattle.std.specs.Prelude.{List, [], ◌∷◌, ◌+◌, codes}
use Rattle.ng_shape.specs.Shape.{Shape, Ether}
use Rattle.ng_machine.specs.kinds.Bridge.{most_hosts}
use Rattle.ng_table.specs.Message.{Message, message, read_only, has_answer, none, u8, u16, u32, s32, structure, counted_by, counters}

-- struct ng_bridge_config
abbrev pub bridge_config : Shape
bridge_config = structure ((codes "debugLevel", u8) ∷ (codes "loopTimeout", u32) ∷ (codes "maxStaleness", u32) ∷ (codes "minStableAge", u32) ∷ [])

-- struct ng_bridge_link_stats
abbrev pub bridge_stats : Shape
bridge_stats = counters (
    codes "recvOctets" ∷ codes "recvPackets" ∷ codes "recvMulticasts" ∷ codes "recvBroadcasts" ∷
    codes "recvUnknown" ∷ codes "recvRunts" ∷ codes "recvInvalid" ∷ codes "xmitOctets" ∷ codes "xmitPackets" ∷
    codes "xmitMulticasts" ∷ codes "xmitBroadcasts" ∷ codes "loopDrops" ∷ codes "loopDetects" ∷
    codes "memoryFailures" ∷ [])

-- struct ng_bridge_host
abbrev pub bridge_host : Shape
bridge_host = structure ((codes "addr", Ether) ∷ (codes "hook", s32) ∷ (codes "age", u16) ∷ (codes "staleness", u16) ∷ [])

-- struct ng_bridge_host_ary
abbrev pub bridge_table : Shape
bridge_table = structure ((codes "numHosts", u32) ∷ (codes "hosts", counted_by (codes "numHosts") most_hosts bridge_host) ∷ [])

-- statistics are asked of a link by its number
abbrev pub bridge_messages : List Message
bridge_messages =
    message (codes "setconfig") 1 bridge_config none
    ∷ message (codes "getconfig") (2 + read_only + has_answer) none bridge_config
    ∷ message (codes "reset") 3 none none
    ∷ message (codes "getstats") (4 + has_answer) u32 bridge_stats
    ∷ message (codes "clrstats") 5 u32 none
    ∷ message (codes "getclrstats") (6 + has_answer) u32 bridge_stats
    ∷ message (codes "gettable") (7 + has_answer) none bridge_table
    ∷ message (codes "setpersistent") 8 none none
    ∷ []
