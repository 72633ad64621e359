-- A script and captures that are made from a number of packets: a graph with a hub, a filter, a patch and a VLAN node
-- between three ports.
use Rattle.std.specs.Prelude.{ℕ, ◌+◌, ◌*◌, ◌%◌, List, [], ◌∷◌, ◌++◌, codes, map, replicate}
use Rattle.std.specs.List.{flat_map, range_with_len}
use Rattle.ng_base.specs.declared.ids.Stamp.{Stamp}
use Rattle.ng_pcap.specs.Writing.{written_file}

abbrev pub made_lines : List (List ℕ)
made_lines =
    codes "mkpeer em0: hub lower a"
    ∷ codes "name em0:lower h"
    ∷ codes "mkpeer h: bpf b in"
    ∷ codes "name h:b f"
    ∷ codes "mkpeer f: patch hit in"
    ∷ codes "connect f:hit em1: out lower"
    ∷ codes "mkpeer h: vlan c downstream"
    ∷ codes "name h:c v"
    ∷ codes "mkpeer v: hole nomatch x"
    ∷ codes "connect v: em2: v5 lower"
    ∷ codes "msg v: addfilter { hook=\"v5\" vlan=5 }"
    ∷ codes "msg f: setprogram { thisHook=\"in\" ifMatch=\"hit\" bpf_prog_len=3 bpf_prog=[ { code=0x30 k=18 } { code=0x54 k=1 } { code=0x16 } ] }"
    ∷ codes "msg f:hit setconfig { count=1 ops=[ { offset=18 length=1 mode=9 value=255 } ] }"
    ∷ []

-- each line with its end
abbrev pub made_script : List ℕ
made_script = flat_map (λ line. line ++ 0x0a ∷ []) made_lines

abbrev pub made_ports : List (List ℕ)
made_ports = codes "em0" ∷ codes "em1" ∷ codes "em2" ∷ []

-- the bytes of packet k of n: two addresses, the tag of VLAN k mod 8, IPv4's type, a byte that differs, and zeros
abbrev pub packet_bytes : ℕ → ℕ → List ℕ
packet_bytes n k =
    2 ∷ 0 ∷ 0 ∷ 0 ∷ 0 ∷ 1 ∷ 2 ∷ 0 ∷ 0 ∷ 0 ∷ 0 ∷ 2 ∷ 0x81 ∷ 0 ∷ 0 ∷ k % 8 ∷ 8 ∷ 0 ∷ (7 * k + n) % 256 ∷ replicate 45 0

-- at k microseconds
abbrev pub made_packet : ℕ → ℕ → Stamp × List ℕ
made_packet n k = (record { 0 = k * 1000 }, packet_bytes n k)

-- the packets of the first port; the two others have none
abbrev pub made_packets : ℕ → List (Stamp × List ℕ)
made_packets n = map (made_packet n) (range_with_len 0 n)

abbrev pub made_captures : ℕ → List (List ℕ)
made_captures n = written_file (made_packets n) ∷ written_file [] ∷ written_file [] ∷ []
