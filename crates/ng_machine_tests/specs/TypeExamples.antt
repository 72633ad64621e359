-- Worked examples of the types of nodes: what plain runs tell, answer and leave. Each was worked out by hand.
use Rattle.std.specs.Prelude.{◌≡◌, ℕ, ◌-◌, ◌^◌, true, false, if◌then◌else◌, List, [], ◌∷◌, ◌++◌, length, map, replicate, codes, Option, Some, None}
use Rattle.std.specs.Str.{bytes_eq}
use Rattle.ng_base.specs.declared.event.Event.{Event}
use Rattle.ng_base.specs.declared.event.Event.TheVariants.{Feed}
use Rattle.ng_base.specs.declared.kind.Kind.{Kind}
use Rattle.ng_base.specs.declared.kind.Kind.TheVariants.{Tee, One2many, Bridge, Vlan, Patch, Bpf, Etf, Macset}
use Rattle.ng_message.specs.Fields.{name_field}
use Rattle.ng_machine.specs.declared.body.Body.TheVariants.{Frame, Leave, Learn}
use Rattle.byteorder.specs.Endian.{little_bytes}
use Rattle.ng_machine.specs.declared.body.Body.{Body}
use Rattle.ng_machine.specs.declared.command.What.TheVariants.{Show}
use Rattle.ng_machine.specs.declared.body.Door.TheVariants.{Hook as ByHook}
use Rattle.ng_machine.specs.declared.input.Input.{Input}
use Rattle.ng_machine.specs.declared.input.Input.TheVariants.{Late, Tick}
use Rattle.ng_machine.specs.declared.plan.Plan.{Plan}
use Rattle.ng_machine.specs.declared.told.Told.{Told}
use Rattle.ng_machine.specs.declared.told.Told.TheVariants.{Answer}
use Rattle.ng_machine.specs.State.{State, KindState, TeeState, BridgeState, way_of, add_hook, blank_of}
use Rattle.ng_machine.specs.Counters.{zeros, raise}
use Rattle.ng_machine.specs.kinds.Bridge.{Bridge as BridgeKept, Link, Host, blank_bridge, bridge_tick, bridge_learn}
use Rattle.ng_machine.specs.Case.{eval, absorb, kept_after}
use Rattle.ng_machine.specs.World.{World, NodeRecord, node_at, node_id, link_id, item_id}
use Rattle.ng_machine.specs.Feed.{RunInput, Reading, BadArguments}
use Rattle.ng_machine_tests.specs.Commands.{line, mkpeer, connect, name, rmhook, shutdown, show, msg, write, take, apply, serve, feed_and_serve, told_line, told_error, told_packet, hooks_at, summary, sums, clean}
use Rattle.ng_machine_tests.specs.TypeCommands.{as_bytes, given_bytes, world_by, is_plain_run, world_after, is_seated, late, packet_at, answered, left_by, sixty_fours, number, short}

-- Frames

abbrev pub host_a : List ℕ
host_a = 2 ∷ 0 ∷ 0 ∷ 0 ∷ 0 ∷ 0x0a ∷ []

abbrev pub host_b : List ℕ
host_b = 2 ∷ 0 ∷ 0 ∷ 0 ∷ 0 ∷ 0x0b ∷ []

abbrev pub host_c : List ℕ
host_c = 2 ∷ 0 ∷ 0 ∷ 0 ∷ 0 ∷ 0x0c ∷ []

abbrev pub everyone : List ℕ
everyone = replicate 6 0xff

abbrev pub frame : List ℕ → List ℕ → ℕ → List ℕ
frame destination source last = destination ++ source ++ 8 ∷ last ∷ []

abbrev pub dot : List ℕ
dot = codes "."

abbrev pub a : List ℕ
a = codes "a"

abbrev pub b : List ℕ
b = codes "b"

abbrev pub c : List ℕ
c = codes "c"

-- 1. A bridge between two ports learns where hosts are, and forwards.

abbrev pub ports : List (List ℕ)
ports = codes "em0" ∷ codes "em1" ∷ []

abbrev pub bridge_graph : List Input
bridge_graph =
    mkpeer 1 (codes "em0:") (codes "bridge") (codes "lower") (codes "link0")
    ∷ name 2 (codes "em0:lower") (codes "br0")
    ∷ connect 3 (codes "br0:") (codes "em1:") (codes "link1") (codes "lower")
    ∷ []

abbrev pub learning : RunInput
learning = given_bytes (bridge_graph
    ++ packet_at 0 1000 (frame everyone host_a 6) ∷ Tick 1
    ∷ packet_at 1 2000 (frame host_a host_b 6) ∷ Tick 1
    ∷ packet_at 0 3000 (frame host_b host_a 0) ∷ Tick 1
    ∷ packet_at 1 4000 (frame host_a host_b 0) ∷ Tick 1
    ∷ packet_at 0 5000 (frame host_c host_a 0) ∷ Tick 1
    ∷ packet_at 1 6000 (frame everyone host_b 0)
    ∷ Late (record { number = 4; line = []; what = Show false (codes "br0:") })
    ∷ late 5 (codes "br0:") (codes "gettable") []
    ∷ [])

abbrev pub info : List ℕ → List ℕ → ℕ → ℕ → List ℕ
info own kind n hooks = name_field own ++ name_field kind ++ number n ++ number hooks

abbrev pub link_info : List ℕ → List ℕ → List ℕ → List ℕ
link_info ours theirs peer = name_field ours ++ name_field theirs ++ peer

abbrev pub entry : List ℕ → List ℕ → ℕ → ℕ → List ℕ
entry addr hook age staleness = addr ++ name_field hook ++ short age ++ short staleness

abbrev pub LearningExample : Type 0
LearningExample =
    ((world_by ports learning).told
    ≡ told_line 1 ∷ told_line 2 ∷ told_line 3 ∷ told_line 4
    ∷ Answer 4 (node_id 4) 1137070366 0x30000007
    (info (codes "br0") (codes "bridge") 4 2
    ++ link_info (codes "link0") (codes "lower") (info (codes "em0") (codes "ether") 2 1)
    ++ link_info (codes "link1") (codes "lower") (info (codes "em1") (codes "ether") 3 1))
    ∷ told_line 5
    ∷ answered 5 4 Bridge 0x20000007 (number 2 ++ entry host_a (codes "link0") 5 1 ++ entry host_b (codes "link1") 4 0)
    ∷ [])
    × (summary (world_by ports learning) ≡ sums 16 (clean 34 4 4))
    × (left_by (world_by ports learning)
    ≡ (frame host_a host_b 6 ∷ frame host_a host_b 0 ∷ frame everyone host_b 0 ∷ [])
    ∷ (frame everyone host_a 6 ∷ frame host_b host_a 0 ∷ frame host_c host_a 0 ∷ [])
    ∷ [])
    × (is_plain_run ports learning ≡ true)

-- 2. A host that shows up on another link too soon makes that link mute.

abbrev pub looping : RunInput
looping = given_bytes (bridge_graph
    ++ packet_at 0 1000 (frame everyone host_a 6)
    ∷ packet_at 1 1100 (frame everyone host_a 6)
    ∷ Tick 60
    ∷ packet_at 1 61000 (frame everyone host_b 6)
    ∷ late 4 (codes "br0:") (codes "getstats") (number 1)
    ∷ [])

abbrev pub LoopingExample : Type 0
LoopingExample =
    ((world_by ports looping).told
    ≡ told_line 1 ∷ told_line 2 ∷ told_line 3 ∷ told_line 4
    ∷ answered 4 4 Bridge 0x20000004 (sixty_fours (28 ∷ 2 ∷ 0 ∷ 2 ∷ 0 ∷ 0 ∷ 0 ∷ 14 ∷ 1 ∷ 0 ∷ 1 ∷ 1 ∷ 1 ∷ 0 ∷ []))
    ∷ [])
    × (summary (world_by ports looping) ≡ sums 8 (clean 19 4 4))
    × (left_by (world_by ports looping) ≡ (frame everyone host_b 6 ∷ []) ∷ (frame everyone host_a 6 ∷ []) ∷ [])
    × (is_plain_run ports looping ≡ true)

-- 3. A runt is counted, and the longest packet passes.

abbrev pub sizes : RunInput
sizes = given_bytes (bridge_graph
    ++ packet_at 0 1000 (everyone ++ host_a ++ 8 ∷ [])
    ∷ packet_at 0 1000 (frame everyone host_a 6)
    ∷ packet_at 0 1000 (frame everyone host_a 6 ++ replicate 262130 7)
    ∷ late 4 (codes "br0:") (codes "getstats") (number 0)
    ∷ [])

abbrev pub SizesExample : Type 0
SizesExample =
    ((world_by ports sizes).told
    ≡ told_line 1 ∷ told_line 2 ∷ told_line 3 ∷ told_line 4
    ∷ answered 4 4 Bridge 0x20000004 (sixty_fours (262171 ∷ 3 ∷ 0 ∷ 2 ∷ 0 ∷ 1 ∷ 0 ∷ 0 ∷ 0 ∷ 0 ∷ 0 ∷ 0 ∷ 0 ∷ 0 ∷ []))
    ∷ [])
    × (map (λ packets. map (λ packet. length packet) packets) (left_by (world_by ports sizes)) ≡ [] ∷ (14 ∷ 262144 ∷ []) ∷ [])

-- 4. A link whose hook isn't there, and one that is none.

abbrev pub no_links : RunInput
no_links = given_bytes (
    mkpeer 1 (codes "em0:") (codes "bridge") (codes "lower") (codes "link0")
    ∷ connect 2 (codes "em0:lower") (codes "em1:") (codes "link1") (codes "lower")
    ∷ late 3 (codes "em0:lower") (codes "getstats") (number 2)
    ∷ late 4 (codes "em0:lower") (codes "getstats") (number 32)
    ∷ [])

abbrev pub NoLinksExample : Type 0
NoLinksExample = (world_by ports no_links).told ≡ told_line 1 ∷ told_line 2 ∷ told_line 3 ∷ told_error 3 57 [] ∷ told_line 4 ∷ told_error 4 22 [] ∷ []

-- 5. Two frames of two links are worked on side by side: each makes an item to learn by, before what it sends.

abbrev pub beside_inputs : List Input
beside_inputs =
    mkpeer 1 (codes "em0:") (codes "bridge") (codes "lower") (codes "link0")
    ∷ connect 2 (codes "em0:lower") (codes "em1:") (codes "link1") (codes "lower")
    ∷ packet_at 0 1000 (frame host_b host_a 0)
    ∷ packet_at 1 1000 (frame host_a host_b 0)
    ∷ []

abbrev pub beside_front : List Event
beside_front = feed_and_serve 1 ++ feed_and_serve 2 ++ serve 0 3 ++ serve 0 4 ++ Feed ∷ Feed ∷ serve 0 5 ++ serve 0 6 ++ take 7 0 ∷ take 8 1 ∷ apply 8 ∷ []

abbrev pub beside_journal : List Event
beside_journal = beside_front ++ apply 7 ∷ serve 0 9 ++ serve 0 10 ++ serve 0 11 ++ serve 0 12

-- the hosts of a bridge
abbrev pub hosts_of_part : KindState → List Host
hosts_of_part (BridgeState s) = s.hosts
hosts_of_part _ = []

abbrev pub hosts_of : Option NodeRecord → List Host
hosts_of None = []
hosts_of (Some row) = hosts_of_part row.kept

abbrev pub hosts_at : World → ℕ → List Host
hosts_at w n = hosts_of (node_at w (node_id n))

abbrev pub host : List ℕ → ℕ → Host
host addr link = record { addr = addr; link = link; age = 0; staleness = 0; seen = 0 }

-- what waits: its node and its body
abbrev pub waits : World → List (ℕ × Body)
waits w = map (λ item. (item.to.0, item.body)) w.pending

abbrev pub BesideExample : Type 0
BesideExample =
    (waits (world_after ports beside_inputs beside_front)
    ≡ (4, Frame (ByHook (codes "link0")) (Some (link_id 1)) (frame host_b host_a 0))
    ∷ (4, Learn (codes "link1") (link_id 2) host_b)
    ∷ (2, Frame (ByHook (codes "lower")) (Some (link_id 1)) (frame host_a host_b 0))
    ∷ [])
    × (hosts_at (world_after ports beside_inputs beside_journal) 4 ≡ host host_a 0 ∷ host host_b 1 ∷ [])
    × (left_by (world_after ports beside_inputs beside_journal) ≡ (frame host_a host_b 0 ∷ []) ∷ (frame host_b host_a 0 ∷ []) ∷ [])
    × (summary (world_after ports beside_inputs beside_journal) ≡ sums 4 (clean 12 4 4))
    × (is_seated ports beside_inputs 2 beside_journal ≡ true)

-- 6. A host is learned and then forgotten with its link; and what is to be learned by a hook that is gone does nothing.

abbrev pub forgotten_inputs : List Input
forgotten_inputs =
    mkpeer 1 (codes "em0:") (codes "bridge") (codes "lower") (codes "link0")
    ∷ connect 2 (codes "em0:lower") (codes "em1:") (codes "link1") (codes "lower")
    ∷ packet_at 0 1000 (frame host_b host_a 0)
    ∷ rmhook 3 (codes "em0:lower") (codes "link0")
    ∷ []

abbrev pub forgotten_front : List Event
forgotten_front = feed_and_serve 1 ++ feed_and_serve 2 ++ serve 0 3 ++ serve 0 4 ++ feed_and_serve 5 ++ serve 0 6 ++ Feed ∷ serve 0 7

abbrev pub forgotten_journal : List Event
forgotten_journal = forgotten_front ++ serve 0 8 ++ serve 0 9 ++ serve 0 10

-- here the port's hook goes while one seat works on the packet, so that the Leave waits before the Learn
abbrev pub late_inputs : List Input
late_inputs =
    mkpeer 1 (codes "em0:") (codes "bridge") (codes "lower") (codes "link0")
    ∷ connect 2 (codes "em0:lower") (codes "em1:") (codes "link1") (codes "lower")
    ∷ packet_at 0 1000 (frame host_b host_a 0)
    ∷ rmhook 3 (codes "em0:") (codes "lower")
    ∷ []

abbrev pub late_front : List Event
late_front = feed_and_serve 1 ++ feed_and_serve 2 ++ serve 0 3 ++ serve 0 4 ++ feed_and_serve 5 ++ Feed ∷ take 6 0 ∷ serve 1 7 ++ apply 6 ∷ []

abbrev pub ForgottenExample : Type 0
ForgottenExample =
    (hosts_at (world_after ports forgotten_inputs forgotten_front) 4 ≡ host host_a 0 ∷ [])
    × (hosts_at (world_after ports forgotten_inputs forgotten_journal) 4 ≡ [])
    × (hooks_at (world_after ports forgotten_inputs forgotten_journal) 2 ≡ [])
    × (summary (world_after ports forgotten_inputs forgotten_journal) ≡ sums 4 (clean 10 4 2))
    × (is_seated ports forgotten_inputs 1 forgotten_journal ≡ true)
    -- a Leave of the link comes before the Learn
    × (waits (world_after ports late_inputs late_front)
    ≡ (4, Leave (codes "link0") (link_id 1))
    ∷ (4, Learn (codes "link0") (link_id 1) host_a)
    ∷ (3, Frame (ByHook (codes "lower")) (Some (link_id 2)) (frame host_b host_a 0))
    ∷ [])
    × (hosts_at (world_after ports late_inputs (late_front ++ serve 0 8 ++ serve 0 9 ++ serve 0 10)) 4 ≡ [])
    × (summary (world_after ports late_inputs (late_front ++ serve 0 8 ++ serve 0 9 ++ serve 0 10)) ≡ sums 4 (clean 10 4 2))
    × (is_seated ports late_inputs 2 (late_front ++ serve 0 8 ++ serve 0 9 ++ serve 0 10) ≡ true)

-- 7. A bpf sends on by its program's answer; a program that isn't valid is refused.

abbrev pub insn : ℕ → ℕ → List ℕ
insn code k = short code ++ 0 ∷ 0 ∷ number k

abbrev pub program : List ℕ → List ℕ → List ℕ → ℕ → List ℕ → List ℕ
program this if_match if_not_match count insns = name_field this ++ name_field if_match ++ name_field if_not_match ++ number count ++ insns

abbrev pub by_program : RunInput
by_program = given_bytes (
    mkpeer 1 dot (codes "bpf") a (codes "x")
    ∷ connect 2 dot a b (codes "y")
    ∷ connect 3 dot a c (codes "z")
    ∷ msg 4 a (codes "setprogram") (program (codes "x") [] [] 1 (insn 32 100))
    ∷ msg 5 a (codes "setprogram") (program (codes "x") (codes "y") (codes "z") 2 (insn 32 100 ++ insn 6 1))
    ∷ write 6 a (1 ∷ 2 ∷ 3 ∷ [])
    ∷ [])

abbrev pub by_program_more : RunInput
by_program_more = given_bytes (
    mkpeer 1 dot (codes "bpf") a (codes "x")
    ∷ connect 2 dot a b (codes "y")
    ∷ msg 3 a (codes "setprogram") (program (codes "x") (codes "y") [] 1 (insn 6 1))
    ∷ write 4 a (1 ∷ 2 ∷ 3 ∷ [])
    ∷ msg 5 a (codes "getstats") (name_field (codes "x"))
    ∷ msg 6 a (codes "getstats") (name_field (codes "y"))
    ∷ msg 7 a (codes "getprogram") (name_field (codes "x"))
    ∷ msg 8 a (codes "getstats") (name_field (codes "z"))
    ∷ [])

abbrev pub ProgramExample : Type 0
ProgramExample =
    ((world_by [] by_program).told
    ≡ told_line 1 ∷ told_line 2 ∷ told_line 3 ∷ told_line 4 ∷ told_error 4 22 [] ∷ told_line 5 ∷ told_line 6 ∷ told_packet c (1 ∷ 2 ∷ 3 ∷ []) ∷ [])
    × (summary (world_by [] by_program) ≡ sums 6 (clean 11 2 6))
    × (is_plain_run [] by_program ≡ true)
    × ((world_by [] by_program_more).told
    ≡ told_line 1 ∷ told_line 2 ∷ told_line 3 ∷ told_line 4 ∷ told_packet b (1 ∷ 2 ∷ 3 ∷ [])
    ∷ told_line 5 ∷ answered 5 2 Bpf 0x20000003 (sixty_fours (1 ∷ 3 ∷ 1 ∷ 3 ∷ 0 ∷ 0 ∷ []))
    ∷ told_line 6 ∷ answered 6 2 Bpf 0x20000003 (sixty_fours (0 ∷ 0 ∷ 0 ∷ 0 ∷ 1 ∷ 3 ∷ []))
    ∷ told_line 7 ∷ answered 7 2 Bpf 0x30000002 (program (codes "x") (codes "y") [] 1 (insn 6 1))
    ∷ told_line 8 ∷ told_error 8 2 [] ∷ [])

-- 8. A patch adds 1 to a byte, and an operation past the packet's end changes nothing.

abbrev pub op : ℕ → ℕ → ℕ → ℕ → List ℕ
op offset length mode value = number offset ++ short length ++ short mode ++ little_bytes 8 value

abbrev pub patching : RunInput
patching = given_bytes (
    mkpeer 1 dot (codes "patch") a (codes "in")
    ∷ connect 2 dot a b (codes "out")
    ∷ msg 3 a (codes "setconfig") (number 2 ++ number 0 ++ op 0 1 2 1 ++ op 100 4 1 7)
    ∷ write 4 a (255 ∷ 2 ∷ [])
    ∷ [])

abbrev pub PatchingExample : Type 0
PatchingExample =
    ((world_by [] patching).told ≡ told_line 1 ∷ told_line 2 ∷ told_line 3 ∷ told_line 4 ∷ told_packet b (0 ∷ 2 ∷ []) ∷ [])
    × (summary (world_by [] patching) ≡ sums 4 (clean 7 2 4))
    × (is_plain_run [] patching ≡ true)

-- 9. A one2many tells its configuration, and deals packets out in turn.

abbrev pub many_config : List ℕ → List ℕ
many_config enabled = number 1 ++ number 1 ++ enabled ++ replicate (64 - length enabled) 0

abbrev pub twice : List ℕ
twice = codes "{ xmitAlg=1 xmitAlg=2 }"

abbrev pub configuring : RunInput
configuring = record {
  inputs =
      mkpeer 1 dot (codes "one2many") a (codes "one")
      ∷ msg 2 a (codes "setconfig") (many_config (1 ∷ 0 ∷ 0 ∷ 0 ∷ 0 ∷ 1 ∷ []))
      ∷ msg 3 a (codes "getconfig") []
      ∷ msg 4 a (codes "setconfig") twice
      ∷ [];
  reading = λ kind command args. if bytes_eq args twice then BadArguments (codes "bad arguments at 12: field twice") else as_bytes kind command args;
}

abbrev pub dealing : RunInput
dealing = given_bytes (
    mkpeer 1 dot (codes "one2many") a (codes "one")
    ∷ connect 2 dot a b (codes "many0")
    ∷ connect 3 dot a c (codes "many1")
    ∷ msg 4 a (codes "setconfig") (many_config (1 ∷ 1 ∷ []))
    ∷ write 5 a (1 ∷ [])
    ∷ write 6 a (2 ∷ [])
    ∷ write 7 a (3 ∷ [])
    ∷ [])

abbrev pub DealingExample : Type 0
DealingExample =
    ((world_by [] configuring).told
    ≡ told_line 1 ∷ told_line 2 ∷ told_line 3 ∷ answered 3 2 One2many 0x30000002 (many_config (1 ∷ 0 ∷ 0 ∷ 0 ∷ 0 ∷ 1 ∷ []))
    ∷ told_line 4 ∷ told_error 4 22 (codes "bad arguments at 12: field twice") ∷ [])
    × (summary (world_by [] configuring) ≡ sums 4 (clean 4 2 2))
    × ((world_by [] dealing).told
    ≡ told_line 1 ∷ told_line 2 ∷ told_line 3 ∷ told_line 4
    ∷ told_line 5 ∷ told_packet b (1 ∷ []) ∷ told_line 6 ∷ told_packet c (2 ∷ []) ∷ told_line 7 ∷ told_packet b (3 ∷ []) ∷ [])
    × (summary (world_by [] dealing) ≡ sums 7 (clean 14 2 6))
    × (is_plain_run [] dealing ≡ true)

-- 10. A vlan takes tags off and puts them on.

abbrev pub twelve : List ℕ
twelve = 1 ∷ 2 ∷ 3 ∷ 4 ∷ 5 ∷ 6 ∷ 7 ∷ 8 ∷ 9 ∷ 10 ∷ 11 ∷ 12 ∷ []

abbrev pub vlan_filter : List ℕ → ℕ → ℕ → ℕ → List ℕ
vlan_filter hook vlan pcp cfi = name_field hook ++ short vlan ++ pcp ∷ cfi ∷ []

abbrev pub v5 : List ℕ
v5 = codes "v5"

abbrev pub tagging : RunInput
tagging = given_bytes (
    mkpeer 1 dot (codes "vlan") a (codes "downstream")
    ∷ connect 2 dot a b v5
    ∷ connect 3 dot a c (codes "nomatch")
    ∷ msg 4 a (codes "addfilter") (vlan_filter v5 5 0 0)
    ∷ write 5 a (twelve ++ 0x81 ∷ 0 ∷ 0x20 ∷ 5 ∷ 8 ∷ 0 ∷ [])
    ∷ write 6 b (twelve ++ 8 ∷ 0 ∷ [])
    ∷ [])

abbrev pub service_graph : List Input
service_graph =
    mkpeer 1 dot (codes "vlan") a (codes "downstream")
    ∷ connect 2 dot a b v5
    ∷ msg 3 a (codes "settagtype") (number 0x88a8)
    ∷ msg 4 a (codes "addfilter") (vlan_filter v5 5 3 0)
    ∷ write 5 b (twelve ++ 8 ∷ 0 ∷ [])
    ∷ []

abbrev pub service : RunInput
service = given_bytes service_graph

abbrev pub service_more : RunInput
service_more = given_bytes (service_graph ++ msg 6 a (codes "gettable") [] ∷ msg 7 a (codes "settagtype") (number 0x9100) ∷ msg 8 a (codes "gettagtype") [] ∷ [])

abbrev pub service_told : List Told
service_told = told_line 1 ∷ told_line 2 ∷ told_line 3 ∷ told_line 4 ∷ told_line 5 ∷ told_packet a (twelve ++ 0x88 ∷ 0xa8 ∷ 0x60 ∷ 5 ∷ 8 ∷ 0 ∷ []) ∷ []

abbrev pub TaggingExample : Type 0
TaggingExample =
    ((world_by [] tagging).told
    ≡ told_line 1 ∷ told_line 2 ∷ told_line 3 ∷ told_line 4 ∷ told_line 5 ∷ told_packet b (twelve ++ 8 ∷ 0 ∷ [])
    ∷ told_line 6 ∷ told_packet a (twelve ++ 0x81 ∷ 0 ∷ 0 ∷ 5 ∷ 8 ∷ 0 ∷ []) ∷ [])
    × (summary (world_by [] tagging) ≡ sums 6 (clean 12 2 6))
    × (is_plain_run [] tagging ≡ true)
    × ((world_by [] service).told ≡ service_told)
    × (summary (world_by [] service) ≡ sums 5 (clean 8 2 4))
    × ((world_by [] service_more).told
    ≡ service_told ++ told_line 6 ∷ answered 6 2 Vlan 0x30000003 (number 1 ++ vlan_filter v5 5 3 0)
    ∷ told_line 7 ∷ told_error 7 22 [] ∷ told_line 8 ∷ answered 8 2 Vlan 0x30000005 (number 0x88a8) ∷ [])

-- 11. A split refuses what comes by out.

abbrev pub splitting : RunInput
splitting = given_bytes (mkpeer 1 dot (codes "split") a (codes "out") ∷ write 2 a (1 ∷ []) ∷ [])

abbrev pub SplittingExample : Type 0
SplittingExample = summary (world_by [] splitting) ≡ sums 2 (record (clean 2 2 2) { refused = 1 })

-- 12. A tee copies, counts and clears; and leaves its peers joined to each other.

abbrev pub copying : RunInput
copying = given_bytes (
    mkpeer 1 dot (codes "tee") a (codes "left")
    ∷ connect 2 dot a b (codes "right")
    ∷ connect 3 dot a c (codes "left2right")
    ∷ write 4 a (1 ∷ 2 ∷ [])
    ∷ msg 5 a (codes "getclrstats") []
    ∷ msg 6 a (codes "getstats") []
    ∷ [])

abbrev pub bypassing : RunInput
bypassing = given_bytes (
    mkpeer 1 dot (codes "tee") a (codes "left") ∷ connect 2 dot a b (codes "right") ∷ shutdown 3 a ∷ write 4 a (1 ∷ []) ∷ [])

abbrev pub CopyingExample : Type 0
CopyingExample =
    ((world_by [] copying).told
    ≡ told_line 1 ∷ told_line 2 ∷ told_line 3 ∷ told_line 4 ∷ told_packet c (1 ∷ 2 ∷ []) ∷ told_packet b (1 ∷ 2 ∷ [])
    ∷ told_line 5 ∷ answered 5 2 Tee 0x20000003 (sixty_fours (0 ∷ 0 ∷ 2 ∷ 1 ∷ 2 ∷ 1 ∷ 0 ∷ 0 ∷ 0 ∷ 0 ∷ 0 ∷ 0 ∷ 0 ∷ 0 ∷ 2 ∷ 1 ∷ []))
    ∷ told_line 6 ∷ answered 6 2 Tee 0x20000001 (replicate 128 0) ∷ [])
    × (summary (world_by [] copying) ≡ sums 6 (clean 14 2 6))
    × (is_plain_run [] copying ≡ true)
    × ((world_by [] bypassing).told ≡ told_line 1 ∷ told_line 2 ∷ told_line 3 ∷ told_line 4 ∷ told_packet b (1 ∷ []) ∷ [])
    × (summary (world_by [] bypassing) ≡ sums 4 (clean 8 1 2))

-- 13. What is counted may reach the state in another order than that of the packets.

abbrev pub a_tee : State
a_tee = add_hook (add_hook (blank_of Tee) (codes "left")) (codes "right")

abbrev pub by_left : Body
by_left = Frame (ByHook (codes "left")) (Some (link_id 1)) (1 ∷ [])

abbrev pub by_right : Body
by_right = Frame (ByHook (codes "right")) (Some (link_id 2)) (2 ∷ 3 ∷ [])

abbrev pub in_turn : KindState
in_turn = kept_after (record a_tee { kept = kept_after a_tee by_left }) by_right

abbrev pub counts_by : Option Plan → List ℕ → List ℕ → List (List ℕ × ℕ × ℕ)
counts_by None hook packet = []
counts_by (Some plan) hook packet = (eval plan (ByHook hook) packet).counts

abbrev pub in_other_order : KindState
in_other_order = absorb (absorb a_tee.kept (counts_by (way_of a_tee) (codes "right") (2 ∷ 3 ∷ []))) (counts_by (way_of a_tee) (codes "left") (1 ∷ []))

abbrev pub OrderExample : Type 0
OrderExample = in_other_order ≡ in_turn

-- 14. A hook that is gone can't be written to; a hub that was set persistent stays without hooks.

abbrev pub unhooked : RunInput
unhooked = given_bytes (mkpeer 1 dot (codes "hub") a (codes "x") ∷ rmhook 2 dot a ∷ write 3 a (1 ∷ []) ∷ [])

abbrev pub persistent : RunInput
persistent = given_bytes (mkpeer 1 dot (codes "hub") a (codes "x") ∷ msg 2 a (codes "setpersistent") [] ∷ rmhook 3 dot a ∷ [])

abbrev pub persistent_bridge : RunInput
persistent_bridge = given_bytes (mkpeer 1 dot (codes "bridge") a (codes "link7") ∷ msg 2 a (codes "setpersistent") [] ∷ rmhook 3 dot a ∷ [])

abbrev pub StayingExample : Type 0
StayingExample =
    ((world_by [] unhooked).told ≡ told_line 1 ∷ told_line 2 ∷ told_line 3 ∷ told_error 3 57 [] ∷ [])
    × (summary (world_by [] unhooked) ≡ sums 3 (clean 3 1 0))
    × (summary (world_by [] persistent) ≡ sums 3 (clean 4 2 0))
    × (summary (world_by [] persistent_bridge) ≡ sums 3 (clean 4 2 0))

-- 15. An etf sorts frames by their ethertype, and refuses one that comes by a filter's hook with another.

abbrev pub etf_filter : List ℕ → ℕ → List ℕ
etf_filter hook ethertype = name_field hook ++ short ethertype

abbrev pub sorting_graph : List Input
sorting_graph =
    mkpeer 1 dot (codes "etf") a (codes "downstream")
    ∷ connect 2 dot a b (codes "ip")
    ∷ connect 3 dot a c (codes "nomatch")
    ∷ msg 4 a (codes "setfilter") (etf_filter (codes "ip") 0x800)
    ∷ write 5 a (twelve ++ 8 ∷ 0 ∷ 9 ∷ [])
    ∷ write 6 b (twelve ++ 8 ∷ 6 ∷ [])
    ∷ []

abbrev pub sorting : RunInput
sorting = given_bytes sorting_graph

abbrev pub sorting_more : RunInput
sorting_more = given_bytes (sorting_graph
    ++ write 7 b (twelve ++ 8 ∷ 0 ∷ []) ∷ write 8 a (twelve ++ 8 ∷ 6 ∷ []) ∷ msg 9 a (codes "getstatus") [] ∷ msg 10 a (codes "gettable") []
    ∷ rmhook 11 dot b ∷ msg 12 a (codes "gettable") [] ∷ [])

abbrev pub sorting_told : List Told
sorting_told = told_line 1 ∷ told_line 2 ∷ told_line 3 ∷ told_line 4 ∷ told_line 5 ∷ told_packet b (twelve ++ 8 ∷ 0 ∷ 9 ∷ []) ∷ told_line 6 ∷ []

abbrev pub SortingExample : Type 0
SortingExample =
    ((world_by [] sorting).told ≡ sorting_told)
    × (summary (world_by [] sorting) ≡ sums 6 (record (clean 11 2 6) { refused = 1 }))
    × (is_plain_run [] sorting ≡ true)
    × ((world_by [] sorting_more).told
    ≡ sorting_told ++ told_line 7 ∷ told_packet a (twelve ++ 8 ∷ 0 ∷ []) ∷ told_line 8 ∷ told_packet c (twelve ++ 8 ∷ 6 ∷ [])
    ∷ told_line 9 ∷ answered 9 2 Etf 0x20000002 (sixty_fours (2 ∷ 1 ∷ []))
    ∷ told_line 10 ∷ answered 10 2 Etf 0x30000003 (number 1 ++ etf_filter (codes "ip") 0x800)
    ∷ told_line 11 ∷ told_line 12 ∷ answered 12 2 Etf 0x30000003 (number 0) ∷ [])

-- 16. A macset sorts frames by their source.

abbrev pub six : List ℕ
six = 1 ∷ 2 ∷ 3 ∷ 4 ∷ 5 ∷ 6 ∷ []

abbrev pub sifting : RunInput
sifting = given_bytes (
    mkpeer 1 dot (codes "macset") a (codes "all")
    ∷ connect 2 dot a b (codes "known")
    ∷ connect 3 dot a c (codes "other")
    ∷ msg 4 a (codes "add") host_a
    ∷ write 5 a (frame six host_a 0)
    ∷ write 6 a (frame six host_b 0)
    ∷ [])

abbrev pub sifting_more : RunInput
sifting_more = given_bytes (
    mkpeer 1 dot (codes "macset") a (codes "all")
    ∷ connect 2 dot a b (codes "known")
    ∷ msg 3 a (codes "add") host_b
    ∷ msg 4 a (codes "add") host_a
    ∷ msg 5 a (codes "add") host_a
    ∷ msg 6 a (codes "add") everyone
    ∷ write 7 a (frame six host_a 0)
    ∷ write 8 a (frame six host_c 0)
    ∷ msg 9 a (codes "gettable") []
    ∷ msg 10 a (codes "getstats") []
    ∷ msg 11 a (codes "del") host_b
    ∷ msg 12 a (codes "del") host_b
    ∷ [])

abbrev pub SiftingExample : Type 0
SiftingExample =
    ((world_by [] sifting).told
    ≡ told_line 1 ∷ told_line 2 ∷ told_line 3 ∷ told_line 4 ∷ told_line 5 ∷ told_packet b (frame six host_a 0) ∷ told_line 6 ∷ told_packet c (frame six host_b 0) ∷ [])
    × (summary (world_by [] sifting) ≡ sums 6 (clean 12 2 6))
    × (is_plain_run [] sifting ≡ true)
    × ((world_by [] sifting_more).told
    ≡ told_line 1 ∷ told_line 2 ∷ told_line 3 ∷ told_line 4 ∷ told_line 5 ∷ told_error 5 17 [] ∷ told_line 6 ∷ told_error 6 22 []
    ∷ told_line 7 ∷ told_packet b (frame six host_a 0) ∷ told_line 8
    ∷ told_line 9 ∷ answered 9 2 Macset 0x30000003 (number 2 ++ host_a ++ host_b)
    ∷ told_line 10 ∷ answered 10 2 Macset 0x20000004 (sixty_fours (1 ∷ 0 ∷ []))
    ∷ told_line 11 ∷ told_line 12 ∷ told_error 12 2 [] ∷ [])

-- 17. Time at a bridge: a host that was seen isn't stale, one that is stale for long enough is forgotten, ages stop at 65,535,
-- and mutes fall to 0. Learning: 4,096 hosts at most, none by a mute link, and a host that moves too soon makes the link
-- mute and loses its hosts.

abbrev pub links_with : ℕ → List Link
links_with mute = record { number = 0; mute = mute; counters = zeros 14 } ∷ record { number = 1; mute = 0; counters = zeros 14 } ∷ []

abbrev pub a_bridge : ℕ → List Host → BridgeKept
a_bridge mute hosts = record blank_bridge { links = links_with mute; hosts = hosts }

abbrev pub host_with : List ℕ → ℕ → ℕ → ℕ → ℕ → Host
host_with addr link age staleness seen = record { addr = addr; link = link; age = age; staleness = staleness; seen = seen }

abbrev pub AgingExample : Type 0
AgingExample =
    (bridge_tick (a_bridge 2 (host_with host_a 0 65534 5 1 ∷ host_with host_b 1 7 897 0 ∷ host_with host_c 1 8 896 0 ∷ [])) 3
    ≡ a_bridge 0 (host_with host_a 0 65535 3 0 ∷ host_with host_c 1 11 899 0 ∷ []))
    × (bridge_learn (a_bridge 0 (replicate 4096 (host host_a 0))) (codes "link1") host_b ≡ a_bridge 0 (replicate 4096 (host host_a 0)))
    × (length (bridge_learn (a_bridge 0 (replicate 4095 (host host_a 0))) (codes "link1") host_b).hosts ≡ 4096)
    × (bridge_learn (a_bridge 1 []) (codes "link0") host_b ≡ a_bridge 1 [])
    × (bridge_learn (a_bridge 0 (host_with host_a 1 1 0 0 ∷ [])) (codes "link0") host_a ≡ a_bridge 0 (host_with host_a 0 0 0 0 ∷ []))
    × (bridge_learn (a_bridge 0 (host_with host_a 0 3 4 1 ∷ [])) (codes "link0") host_a ≡ a_bridge 0 (host_with host_a 0 3 4 2 ∷ []))
    × (bridge_learn (a_bridge 0 (host_with host_a 1 0 0 0 ∷ host_with host_b 0 9 9 0 ∷ [])) (codes "link0") host_a
    ≡ record (a_bridge 60 (host_with host_a 1 0 0 0 ∷ [])) {
      links = record { number = 0; mute = 60; counters = 0 ∷ 0 ∷ 0 ∷ 0 ∷ 0 ∷ 0 ∷ 0 ∷ 0 ∷ 0 ∷ 0 ∷ 0 ∷ 0 ∷ 1 ∷ 0 ∷ [] } ∷ record { number = 1; mute = 0; counters = zeros 14 } ∷ [];
    })
    × (raise (2 ^ 64 - 2) 5 ≡ 2 ^ 64 - 1)
