-- Worked examples: journals from a beginning, and what their runs give. Each was worked out by hand.
use Rattle.std.specs.Prelude.{take as first_of, ◌≡◌, ℕ, true, false, List, [], ◌∷◌, ◌++◌, length, map, replicate, codes, Option, Some, None}
use Rattle.ng_base.specs.declared.cause.Cause.TheVariants.{NodeGone, HookGone, Budget}
use Rattle.ng_base.specs.declared.event.Event.{Event}
use Rattle.ng_base.specs.declared.event.Event.TheVariants.{Feed, Back, Stop}
use Rattle.ng_message.specs.Fields.{name_field}
use Rattle.ng_message.specs.Layout.{message_bytes}
use Rattle.ng_machine.specs.declared.body.Body.{Body}
use Rattle.ng_machine.specs.declared.body.Body.TheVariants.{Frame, Msg, Leave, Rebind, Tick as TickBody}
use Rattle.ng_machine.specs.declared.body.Door.TheVariants.{Hook as ByHook}
use Rattle.ng_machine.specs.declared.body.Exit.TheVariants.{Reader}
use Rattle.ng_machine.specs.declared.command.What.TheVariants.{Quit}
use Rattle.ng_machine.specs.declared.input.Input.{Input}
use Rattle.ng_machine.specs.declared.input.Input.TheVariants.{Late, Tick}
use Rattle.ng_machine.specs.declared.item.Item.{Item}
use Rattle.ng_machine.specs.declared.told.Told.{Told}
use Rattle.ng_machine.specs.declared.told.Told.TheVariants.{Answer}
use Rattle.ng_machine.specs.World.{World, node_at, node_id, link_id, item_id}
use Rattle.ng_machine.specs.Change.{post, note, Exits}
use Rattle.ng_machine.specs.Generic.{info_of}
use Rattle.ng_machine.specs.Effect.{effect}
use Rattle.ng_machine.specs.declared.fed.Fed.TheVariants.{Window, Spent}
use Rattle.ng_machine.specs.Refusal.{feed_refusal}
use Rattle.ng_machine.specs.Tests.{may_feed_input}
use Rattle.ng_machine.specs.Run.{after_all, beginning}
use Rattle.ng_machine_tests.specs.Commands.{mkpeer, connect, name, rmhook, shutdown, show, brief, listing, types, status, msg, write, packet, given, begin, take, apply, serve, feed_and_serve, feeds, world_of, is_journal, told_line, told_error, told_packet, hooks_at, next_at, summary, sums, clean}

-- 1. A packet comes back from an echo.

abbrev pub echo_inputs : List Input
echo_inputs = mkpeer 1 (codes ".") (codes "echo") (codes "a") (codes "b") ∷ write 2 (codes "a") (1 ∷ 2 ∷ 3 ∷ []) ∷ []

abbrev pub echo_journal : List Event
echo_journal = feed_and_serve 1 ++ feed_and_serve 2 ++ serve 0 3

-- the bytes of what waits, where it is a message
abbrev pub bytes_of : Body → List ℕ
bytes_of (Msg m) = message_bytes m
bytes_of _ = []

abbrev pub bytes_of_all : List Item → List (List ℕ)
bytes_of_all [] = []
bytes_of_all (item ∷ items) = bytes_of item.body ∷ bytes_of_all items

-- the order as bytes: version 8, 96 bytes of arguments, the number 2, no flags, the token 1, the generic cookie; the name of
-- the command; and three names of 32 bytes
abbrev pub mkpeer_bytes : List ℕ
mkpeer_bytes =
    (8 ∷ 0 ∷ 0 ∷ 0 ∷ 0x60 ∷ 0 ∷ 0 ∷ 0 ∷ 2 ∷ 0 ∷ 0 ∷ 0 ∷ 0 ∷ 0 ∷ 0 ∷ 0 ∷ 1 ∷ 0 ∷ 0 ∷ 0 ∷ 0x1e ∷ 0x51 ∷ 0xc6 ∷ 0x43 ∷ [])
    ++ name_field (codes "mkpeer") ++ name_field (codes "echo") ++ name_field (codes "a") ++ name_field (codes "b")

abbrev pub EchoExample : Type 0
EchoExample =
    ((world_of [] echo_inputs echo_journal).told ≡ told_line 1 ∷ told_line 2 ∷ told_packet (codes "a") (1 ∷ 2 ∷ 3 ∷ []) ∷ [])
    × (summary (world_of [] echo_inputs echo_journal) ≡ sums 2 (clean 3 2 2))
    × (bytes_of_all (world_of [] echo_inputs (Feed ∷ [])).pending ≡ mkpeer_bytes ∷ [])
    × (length mkpeer_bytes ≡ 152)
    × (length echo_journal ≡ 8)
    × (is_journal [] echo_inputs 1000000 1 echo_journal ≡ true)

-- 2. A connect whose second end is there already is refused, and its first end goes again.

abbrev pub two_hubs : List Input
two_hubs =
    mkpeer 1 (codes ".") (codes "hub") (codes "a") (codes "x")
    ∷ mkpeer 2 (codes ".") (codes "hub") (codes "b") (codes "y")
    ∷ name 3 (codes "b") (codes "hb")
    ∷ []

abbrev pub refused_inputs : List Input
refused_inputs = two_hubs ++ connect 4 (codes "a") (codes "hb:") (codes "u") (codes "y") ∷ show 5 (codes "a") ∷ []

abbrev pub refused_journal : List Event
refused_journal = feed_and_serve 1 ++ feed_and_serve 2 ++ feed_and_serve 3 ++ feed_and_serve 4 ++ serve 0 5 ++ serve 0 6 ++ feed_and_serve 7 ++ serve 0 8

-- a node's name, type, number and joined hooks
abbrev pub info : List ℕ → List ℕ → ℕ → ℕ → List ℕ
info own kind n hooks = name_field own ++ name_field kind ++ (n ∷ 0 ∷ 0 ∷ 0 ∷ []) ++ (hooks ∷ 0 ∷ 0 ∷ 0 ∷ [])

-- the first step of the connect is applied
abbrev pub half_journal : List Event
half_journal = feed_and_serve 1 ++ feed_and_serve 2 ++ feed_and_serve 3 ++ feed_and_serve 4

-- the answer as bytes: 208 bytes of arguments, the question's number, the flag 1, the token 5, the generic cookie; the
-- question's name; a node and one link
abbrev pub listhooks_bytes : List ℕ
listhooks_bytes =
    (8 ∷ 0 ∷ 0 ∷ 0 ∷ 208 ∷ 0 ∷ 0 ∷ 0 ∷ 7 ∷ 0 ∷ 0 ∷ 0x30 ∷ 1 ∷ 0 ∷ 0 ∷ 0 ∷ 5 ∷ 0 ∷ 0 ∷ 0 ∷ 0x1e ∷ 0x51 ∷ 0xc6 ∷ 0x43 ∷ [])
    ++ name_field (codes "listhooks")
    ++ (info [] (codes "hub") 2 1 ++ name_field (codes "x") ++ name_field (codes "a") ++ info (codes "ngctl") (codes "socket") 1 2)

abbrev pub RefusedExample : Type 0
RefusedExample =
    ((world_of [] refused_inputs refused_journal).told
    ≡ told_line 1 ∷ told_line 2 ∷ told_line 3 ∷ told_line 4 ∷ told_error 4 17 [] ∷ told_line 5
    ∷ Answer 5 (node_id 2) 1137070366 0x30000007 (info [] (codes "hub") 2 1 ++ name_field (codes "x") ++ name_field (codes "a") ++ info (codes "ngctl") (codes "socket") 1 2) ∷ [])
    × (hooks_at (world_of [] refused_inputs refused_journal) 2 ≡ (codes "x", 1, true) ∷ [])
    × (summary (world_of [] refused_inputs refused_journal) ≡ sums 5 (clean 8 3 4))
    × (is_journal [] refused_inputs 1000000 1 refused_journal ≡ true)
    × (bytes_of_all (world_of [] refused_inputs (half_journal ++ serve 0 5 ++ serve 0 6 ++ feed_and_serve 7)).pending ≡ listhooks_bytes ∷ [])

-- 3. The same connect with a free hook: between its steps the first end is there and not joined.

abbrev pub joined_inputs : List Input
joined_inputs = two_hubs ++ connect 4 (codes "a") (codes "hb:") (codes "u") (codes "z") ∷ []

abbrev pub second_journal : List Event
second_journal = half_journal ++ serve 0 5

abbrev pub joined_journal : List Event
joined_journal = second_journal ++ serve 0 6

-- how many hooks a node tells of
abbrev pub listed_hooks : World → ℕ → ℕ
listed_hooks w n = (info_of (node_id n) (node_at w (node_id n))).hooks

abbrev pub JoinedExample : Type 0
JoinedExample =
    (hooks_at (world_of [] joined_inputs half_journal) 2 ≡ (codes "x", 1, true) ∷ (codes "u", 3, false) ∷ [])
    × (hooks_at (world_of [] joined_inputs half_journal) 3 ≡ (codes "y", 2, true) ∷ [])
    × (hooks_at (world_of [] joined_inputs second_journal) 2 ≡ (codes "x", 1, true) ∷ (codes "u", 3, false) ∷ [])
    × (hooks_at (world_of [] joined_inputs second_journal) 3 ≡ (codes "y", 2, true) ∷ (codes "z", 3, true) ∷ [])
    × (hooks_at (world_of [] joined_inputs joined_journal) 2 ≡ (codes "x", 1, true) ∷ (codes "u", 3, true) ∷ [])
    × (listed_hooks (world_of [] joined_inputs half_journal) 2 ≡ 1)
    × (listed_hooks (world_of [] joined_inputs joined_journal) 2 ≡ 2)
    × ((world_of [] joined_inputs joined_journal).told ≡ told_line 1 ∷ told_line 2 ∷ told_line 3 ∷ told_line 4 ∷ [])
    × (summary (world_of [] joined_inputs joined_journal) ≡ sums 4 (clean 6 3 6))
    × (is_journal [] joined_inputs 1000000 1 joined_journal ≡ true)

-- 4. While one seat holds the last step of a connect, another seat's packet runs up to its node and waits there.

abbrev pub one_port : List (List ℕ)
one_port = codes "em0" ∷ []

abbrev pub past_inputs : List Input
past_inputs =
    mkpeer 1 (codes "em0:") (codes "hub") (codes "lower") (codes "l")
    ∷ mkpeer 2 (codes ".") (codes "hub") (codes "s") (codes "h")
    ∷ connect 3 (codes "s") (codes "em0:lower") (codes "x") (codes "y")
    ∷ packet 0 5 (9 ∷ [])
    ∷ []

abbrev pub past_front : List Event
past_front = feed_and_serve 1 ++ feed_and_serve 2 ++ feed_and_serve 3 ++ serve 0 4 ++ Feed ∷ take 5 0 ∷ serve 1 6 ++ serve 1 7

abbrev pub past_journal : List Event
past_journal = past_front ++ apply 5 ∷ serve 0 8 ++ serve 0 9

abbrev pub PastExample : Type 0
PastExample =
    (next_at (after_all (given past_inputs) (beginning (begin one_port)) past_front) ≡ None)
    × ((world_of one_port past_inputs past_journal).told ≡ told_line 1 ∷ told_line 2 ∷ told_line 3 ∷ told_packet (codes "s") (9 ∷ []) ∷ [])
    × (summary (world_of one_port past_inputs past_journal) ≡ sums 4 (clean 9 4 6))
    × ((world_of one_port past_inputs past_journal).ports ≡ record { leaving = []; fed = 1; up = 0 } ∷ [])
    × (is_journal one_port past_inputs 1000000 2 past_journal ≡ true)

-- 5. A Leave with an old link does nothing to a hook of the same name that was made again, and a packet by a hook that is
-- gone is dropped.

abbrev pub again_inputs : List Input
again_inputs =
    mkpeer 1 (codes "em0:") (codes "hub") (codes "lower") (codes "l")
    ∷ mkpeer 2 (codes "em0:lower") (codes "hub") (codes "x") (codes "y")
    ∷ mkpeer 3 (codes "em0:lower.x") (codes "hole") (codes "k") (codes "k")
    ∷ packet 0 1000 (replicate 14 7)
    ∷ rmhook 4 (codes "em0:lower.x") (codes "y")
    ∷ mkpeer 5 (codes "em0:lower.x") (codes "hole") (codes "y") (codes "h")
    ∷ []

abbrev pub again_journal : List Event
again_journal =
    feed_and_serve 1 ++ feed_and_serve 2 ++ feed_and_serve 3 ++ feed_and_serve 4
    ++ take 5 0 ∷ Feed ∷ serve 1 6 ++ Feed ∷ serve 1 8 ++ apply 5 ∷ take 7 0 ∷ take 9 1 ∷ apply 9 ∷ apply 7 ∷ []

abbrev pub again_front : List Event
again_front = feed_and_serve 1 ++ feed_and_serve 2 ++ feed_and_serve 3 ++ feed_and_serve 4 ++ take 5 0 ∷ Feed ∷ serve 1 6

abbrev pub again_world : World
again_world = world_of one_port again_inputs again_journal

abbrev pub old_leave : Item
old_leave = record { id = item_id 99; to = node_id 4; body = Leave (codes "y") (link_id 2); writer = true; tag = None; stamp = record { 0 = 0 } }

abbrev pub AgainExample : Type 0
AgainExample =
    (again_world.dropped ≡ (item_id 9, HookGone) ∷ [])
    × (hooks_at again_world 4 ≡ (codes "k", 3, true) ∷ (codes "y", 4, true) ∷ [])
    × (hooks_at again_world 3 ≡ (codes "l", 1, true) ∷ [])
    × (effect again_world old_leave (node_at again_world (node_id 4)) ≡ [])
    × (summary again_world ≡ sums 6 (record (clean 8 6 6) { hook_gone = 1 }))
    × (is_journal one_port again_inputs 1000000 2 again_journal ≡ true)
    × (again_world.told ≡ told_line 1 ∷ told_line 2 ∷ told_line 3 ∷ told_line 4 ∷ told_line 5 ∷ [])

-- 6. A shutdown drops what waits at its node, and what is sent there afterwards is lost.

abbrev pub shutdown_inputs : List Input
shutdown_inputs = mkpeer 1 (codes "em0:") (codes "hub") (codes "lower") (codes "l") ∷ replicate 6 (packet 0 5 (9 ∷ [])) ++ shutdown 2 (codes "em0:lower") ∷ []

abbrev pub shutdown_journal : List Event
shutdown_journal =
    feed_and_serve 1 ++ feeds 7 ++ serve 0 2 ++ serve 0 3 ++ serve 0 4 ++ serve 0 5 ++ serve 0 6
    ++ take 7 0 ∷ serve 1 8 ++ apply 7 ∷ serve 0 14

abbrev pub shutdown_world : World
shutdown_world = world_of one_port shutdown_inputs shutdown_journal

-- an ether stays, without its hooks, and the hub beside it goes with its last hook
abbrev pub stays_inputs : List Input
stays_inputs = mkpeer 1 (codes "em0:") (codes "hub") (codes "lower") (codes "l") ∷ shutdown 2 (codes "em0:") ∷ []

abbrev pub stays_journal : List Event
stays_journal = feed_and_serve 1 ++ feed_and_serve 2 ++ serve 0 3

abbrev pub ShutdownExample : Type 0
ShutdownExample =
    (shutdown_world.dropped ≡ (item_id 9, NodeGone) ∷ (item_id 10, NodeGone) ∷ (item_id 11, NodeGone) ∷ (item_id 12, NodeGone) ∷ (item_id 13, NodeGone) ∷ [])
    × (summary shutdown_world ≡ sums 8 (record (clean 9 2 0) { node_gone = 5; peer_gone = 1 }))
    × (is_journal one_port shutdown_inputs 1000000 2 shutdown_journal ≡ true)
    × (shutdown_world.told ≡ told_line 1 ∷ told_line 2 ∷ [])
    × (hooks_at (world_of one_port stays_inputs stays_journal) 2 ≡ [])
    × (summary (world_of one_port stays_inputs stays_journal) ≡ sums 2 (clean 3 2 0))
    × (is_journal one_port stays_inputs 1000000 1 stays_journal ≡ true)

-- 7. The second step of a connect is dropped with its node: the first end goes again, and ENXIO is told.

abbrev pub undone_inputs : List Input
undone_inputs =
    mkpeer 1 (codes ".") (codes "hub") (codes "a") (codes "x")
    ∷ mkpeer 2 (codes "a") (codes "hub") (codes "p") (codes "q")
    ∷ name 3 (codes "a.p") (codes "nb")
    ∷ mkpeer 4 (codes ".") (codes "hub") (codes "d") (codes "y")
    ∷ shutdown 5 (codes "a")
    ∷ connect 6 (codes "d") (codes "nb:") (codes "u") (codes "v")
    ∷ []

abbrev pub undone_journal : List Event
undone_journal =
    feed_and_serve 1 ++ feed_and_serve 2 ++ feed_and_serve 3 ++ feed_and_serve 4 ++ feed_and_serve 5
    ++ take 6 0 ∷ take 7 1 ∷ Feed ∷ serve 2 8 ++ apply 7 ∷ serve 1 10 ++ apply 6 ∷ []

abbrev pub undone_world : World
undone_world = world_of [] undone_inputs undone_journal

abbrev pub UndoneExample : Type 0
UndoneExample =
    (undone_world.told ≡ told_line 1 ∷ told_line 2 ∷ told_line 3 ∷ told_line 4 ∷ told_line 5 ∷ told_line 6 ∷ told_error 6 6 [] ∷ [])
    × (undone_world.dropped ≡ (item_id 9, NodeGone) ∷ [])
    × (hooks_at undone_world 4 ≡ (codes "y", 3, true) ∷ [])
    × (summary undone_world ≡ sums 6 (record (clean 9 2 2) { node_gone = 1 }))
    × (is_journal [] undone_inputs 1000000 3 undone_journal ≡ true)

-- 8. A node joined to itself is shut down, and the hook's name is used again.

abbrev pub itself_inputs : List Input
itself_inputs =
    mkpeer 1 (codes ".") (codes "hub") (codes "a") (codes "x")
    ∷ connect 2 (codes "a") (codes ".") (codes "p") (codes "q")
    ∷ shutdown 3 (codes "a")
    ∷ mkpeer 4 (codes ".") (codes "hub") (codes "a") (codes "x")
    ∷ write 5 (codes "a") (1 ∷ [])
    ∷ []

abbrev pub itself_front : List Event
itself_front = feed_and_serve 1 ++ feed_and_serve 2 ++ serve 0 3 ++ serve 0 4

abbrev pub itself_gone : List Event
itself_gone = itself_front ++ feed_and_serve 5 ++ serve 0 6

abbrev pub itself_journal : List Event
itself_journal = itself_gone ++ feed_and_serve 7 ++ feed_and_serve 8

abbrev pub ItselfExample : Type 0
ItselfExample =
    (hooks_at (world_of [] itself_inputs itself_front) 2 ≡ (codes "x", 1, true) ∷ (codes "p", 2, true) ∷ (codes "q", 2, true) ∷ [])
    × (node_at (world_of [] itself_inputs itself_gone) (node_id 2) ≡ None)
    × (hooks_at (world_of [] itself_inputs itself_gone) 1 ≡ [])
    × (hooks_at (world_of [] itself_inputs itself_journal) 1 ≡ (codes "a", 3, true) ∷ [])
    × (summary (world_of [] itself_inputs itself_journal) ≡ sums 5 (clean 8 2 2))
    × (is_journal [] itself_inputs 1000000 1 itself_journal ≡ true)
    × ((world_of [] itself_inputs itself_journal).told ≡ told_line 1 ∷ told_line 2 ∷ told_line 3 ∷ told_line 4 ∷ told_line 5 ∷ [])

-- 9. Names that are refused: the node has one, another node has it, it begins with a bracket.

abbrev pub names_inputs : List Input
names_inputs =
    mkpeer 1 (codes ".") (codes "hub") (codes "a") (codes "x")
    ∷ name 2 (codes "a") (codes "h1")
    ∷ name 3 (codes "a") (codes "h2")
    ∷ mkpeer 4 (codes ".") (codes "hub") (codes "b") (codes "y")
    ∷ name 5 (codes "b") (codes "h1")
    ∷ name 6 (codes "b") (codes "[x")
    ∷ name 7 (codes "a") (codes "[x")
    ∷ name 8 (codes "a") (codes "ngctl")
    ∷ []

abbrev pub names_journal : List Event
names_journal = feed_and_serve 1 ++ feed_and_serve 2 ++ feed_and_serve 3 ++ feed_and_serve 4 ++ feed_and_serve 5 ++ feed_and_serve 6 ++ feed_and_serve 7 ++ feed_and_serve 8

abbrev pub NamesExample : Type 0
NamesExample =
    ((world_of [] names_inputs names_journal).told
    ≡ told_line 1 ∷ told_line 2 ∷ told_line 3 ∷ told_error 3 56 [] ∷ told_line 4 ∷ told_line 5 ∷ told_error 5 48 [] ∷ told_line 6 ∷ told_error 6 22 []
    ∷ told_line 7 ∷ told_error 7 22 [] ∷ told_line 8 ∷ told_error 8 56 [] ∷ [])
    × (summary (world_of [] names_inputs names_journal) ≡ sums 8 (clean 8 3 4))
    × (is_journal [] names_inputs 1000000 1 names_journal ≡ true)

-- 10. Two hubs joined twice pass a packet round until twenty items are applied: the Stop drops the two that wait.

abbrev pub round_inputs : List Input
round_inputs =
    mkpeer 1 (codes ".") (codes "hub") (codes "a") (codes "a")
    ∷ mkpeer 2 (codes "a") (codes "hub") (codes "p") (codes "p")
    ∷ connect 3 (codes "a") (codes "p") (codes "q") (codes "q")
    ∷ write 4 (codes "a") (1 ∷ [])
    ∷ []

abbrev pub round_journal : List Event
round_journal =
    feed_and_serve 1 ++ feed_and_serve 2 ++ feed_and_serve 3 ++ serve 0 4 ++ serve 0 5 ++ feed_and_serve 6
    ++ serve 0 7 ++ serve 0 8 ++ serve 0 9 ++ serve 0 10 ++ serve 0 11 ++ serve 0 12 ++ serve 0 13
    ++ serve 0 14 ++ serve 0 15 ++ serve 0 16 ++ serve 0 17 ++ serve 0 18 ++ serve 0 19 ++ serve 0 20 ++ Stop ∷ []

abbrev pub round_world : World
round_world = world_of [] round_inputs round_journal

abbrev pub RoundExample : Type 0
RoundExample =
    (round_world.told ≡ told_line 1 ∷ told_line 2 ∷ told_line 3 ∷ told_line 4 ∷ replicate 4 (told_packet (codes "a") (1 ∷ [])))
    × (round_world.dropped ≡ (item_id 21, Budget) ∷ (item_id 22, Budget) ∷ [])
    × (summary round_world ≡ sums 4 (record (clean 20 3 6) { budget = 2 }))
    × (is_journal [] round_inputs 20 1 round_journal ≡ true)

-- 11. The limits, each at a world just below it: of 4,096 waiting packets for what is sent, of 1,024 for what is fed, and
-- of 536,870,912 bytes with 16 for each packet.

abbrev pub a_frame : Item
a_frame = record { id = item_id 0; to = node_id 2; body = Frame (ByHook (codes "b")) (Some (link_id 1)) []; writer = false; tag = None; stamp = record { 0 = 0 } }

abbrev pub with_echo : World
with_echo = world_of [] echo_inputs (feed_and_serve 1)

abbrev pub with_frames : ℕ → World
with_frames n = post (record with_echo { pending = replicate n a_frame }) (node_id 1) (codes "a") (1 ∷ []) (record { 0 = 0 })

abbrev pub with_spool : ℕ → World
with_spool n = note (record with_echo { spool = n }) (node_id 1) (record { 0 = 0 }) (Exits Reader (codes "a") (1 ∷ []))

abbrev pub waiting_with : ℕ → World
waiting_with n = record with_echo { pending = replicate n a_frame }

abbrev pub LimitsExample : Type 0
LimitsExample =
    (length (with_frames 4095).pending ≡ 4096)
    × ((with_frames 4095).lost.full ≡ 0)
    × (length (with_frames 4096).pending ≡ 4096)
    × ((with_frames 4096).lost.full ≡ 1)
    × (may_feed_input (waiting_with 1023) (packet 0 5 []) ≡ true)
    × (may_feed_input (waiting_with 1024) (packet 0 5 []) ≡ false)
    × (may_feed_input (waiting_with 1024) (write 3 (codes "a") (1 ∷ [])) ≡ false)
    × (may_feed_input (waiting_with 1024) (shutdown 3 (codes "a")) ≡ true)
    × ((with_spool 536870895).spool ≡ 536870912)
    × ((with_spool 536870895).lost.spool ≡ 0)
    × ((with_spool 536870896).spool ≡ 536870896)
    × ((with_spool 536870896).lost.spool ≡ 1)
    × ((with_spool 536870895).told ≡ told_line 1 ∷ told_packet (codes "a") (1 ∷ []) ∷ [])
    × ((with_spool 536870896).told ≡ told_line 1 ∷ [])
    × (feed_refusal 9 (waiting_with 1024) (packet 0 5 []) ≡ Some (Window 1024))
    × (feed_refusal 9 (waiting_with 1023) (packet 0 5 []) ≡ None)
    × (feed_refusal 1 (waiting_with 1024) (packet 0 5 []) ≡ Some (Spent 1))

-- 12. A tee that is shut down leaves its two peers joined to each other, and packets go from port to port; with one peer it
-- goes as others do. The command of the shutdown waits for the two steps that join its peers, and for no peer that is to
-- take its end away.

abbrev pub two_ports : List (List ℕ)
two_ports = codes "em0" ∷ codes "em1" ∷ []

abbrev pub bypass_inputs : List Input
bypass_inputs =
    mkpeer 1 (codes "em0:") (codes "tee") (codes "lower") (codes "left")
    ∷ name 2 (codes "em0:lower") (codes "t")
    ∷ connect 3 (codes "t:") (codes "em1:") (codes "right") (codes "lower")
    ∷ shutdown 4 (codes "t:")
    ∷ packet 0 1300 (1 ∷ 2 ∷ [])
    ∷ packet 1 1400 (3 ∷ [])
    ∷ []

-- the shutdown is applied
abbrev pub bypass_front : List Event
bypass_front = feed_and_serve 1 ++ feed_and_serve 2 ++ feed_and_serve 3 ++ serve 0 4 ++ serve 0 5 ++ feed_and_serve 6

abbrev pub bypass_journal : List Event
bypass_journal = bypass_front ++ serve 0 7 ++ serve 0 8 ++ feed_and_serve 9 ++ serve 0 10 ++ feed_and_serve 11 ++ serve 0 12

abbrev pub bypass_world : World
bypass_world = world_of two_ports bypass_inputs bypass_journal

abbrev pub lone_inputs : List Input
lone_inputs = mkpeer 1 (codes ".") (codes "tee") (codes "a") (codes "left") ∷ shutdown 2 (codes "a") ∷ []

abbrev pub lone_journal : List Event
lone_journal = feed_and_serve 1 ++ feed_and_serve 2 ++ serve 0 3

-- a tee with a third peer
abbrev pub third_inputs : List Input
third_inputs =
    mkpeer 1 (codes "em0:") (codes "tee") (codes "lower") (codes "left")
    ∷ name 2 (codes "em0:lower") (codes "t")
    ∷ connect 3 (codes "t:") (codes "em1:") (codes "right") (codes "lower")
    ∷ mkpeer 4 (codes "t:") (codes "hub") (codes "left2right") (codes "x")
    ∷ shutdown 5 (codes "t:")
    ∷ []

abbrev pub third_front : List Event
third_front = feed_and_serve 1 ++ feed_and_serve 2 ++ feed_and_serve 3 ++ serve 0 4 ++ serve 0 5 ++ feed_and_serve 6 ++ feed_and_serve 7

abbrev pub third_journal : List Event
third_journal = third_front ++ serve 0 8 ++ serve 0 9 ++ serve 0 10

-- what waits, and the command that waits for it
abbrev pub with_tags : World → List (Body × Option ℕ)
with_tags w = map (λ item. (item.body, item.tag)) w.pending

abbrev pub BypassExample : Type 0
BypassExample =
    (hooks_at bypass_world 2 ≡ (codes "lower", 3, true) ∷ [])
    × (hooks_at bypass_world 3 ≡ (codes "lower", 3, true) ∷ [])
    × (bypass_world.ports ≡ record { leaving = (record { 0 = 1400 }, 3 ∷ []) ∷ []; fed = 1; up = 0 } ∷ record { leaving = (record { 0 = 1300 }, 1 ∷ 2 ∷ []) ∷ []; fed = 1; up = 0 } ∷ [])
    × (summary bypass_world ≡ sums 6 (clean 12 3 2))
    × (is_journal two_ports bypass_inputs 1000000 1 bypass_journal ≡ true)
    × (summary (world_of [] lone_inputs lone_journal) ≡ sums 2 (clean 3 1 0))
    × (is_journal [] lone_inputs 1000000 1 lone_journal ≡ true)
    × (bypass_world.told ≡ told_line 1 ∷ told_line 2 ∷ told_line 3 ∷ told_line 4 ∷ [])
    × (with_tags (world_of two_ports bypass_inputs bypass_front)
    ≡ (Rebind (codes "lower") (link_id 1) (link_id 3) (node_id 3) (codes "lower"), Some 4)
    ∷ (Rebind (codes "lower") (link_id 2) (link_id 3) (node_id 2) (codes "lower"), Some 4) ∷ [])
    × (with_tags (world_of two_ports third_inputs third_front)
    ≡ (Rebind (codes "lower") (link_id 1) (link_id 4) (node_id 3) (codes "lower"), Some 5)
    ∷ (Rebind (codes "lower") (link_id 2) (link_id 4) (node_id 2) (codes "lower"), Some 5)
    ∷ (Leave (codes "x") (link_id 3), None) ∷ [])
    × (with_tags (world_of [] lone_inputs (feed_and_serve 1 ++ feed_and_serve 2)) ≡ (Leave (codes "a") (link_id 1), None) ∷ [])
    × (summary (world_of two_ports third_inputs third_journal) ≡ sums 5 (clean 10 3 2))
    × (is_journal two_ports third_inputs 1000000 1 third_journal ≡ true)

-- 13. Messages of types: a hub that is set persistent stays without hooks; an ether tells the number that was stored.

abbrev pub types_inputs : List Input
types_inputs =
    mkpeer 1 (codes ".") (codes "hub") (codes "a") (codes "x")
    ∷ msg 2 (codes "a") (codes "setpersistent") []
    ∷ rmhook 3 (codes ".") (codes "a")
    ∷ msg 4 (codes "em0:") (codes "setpromisc") (codes "1")
    ∷ msg 5 (codes "em0:") (codes "getpromisc") []
    ∷ msg 6 (codes "em0:") (codes "nothing") []
    ∷ msg 7 (codes "[3]:") (codes "setpersistent") (codes "1")
    ∷ []

abbrev pub types_journal : List Event
types_journal = feed_and_serve 1 ++ feed_and_serve 2 ++ feed_and_serve 3 ++ serve 0 4 ++ feed_and_serve 5 ++ feed_and_serve 6 ++ serve 0 7 ++ feeds 2

abbrev pub types_world : World
types_world = world_of one_port types_inputs types_journal

abbrev pub TypesExample : Type 0
TypesExample =
    (types_world.told
    ≡ told_line 1 ∷ told_line 2 ∷ told_line 3 ∷ told_line 4 ∷ told_line 5 ∷ Answer 5 (node_id 2) 0x4e47000b 0x30000002 (1 ∷ 0 ∷ 0 ∷ 0 ∷ [])
    ∷ told_line 6 ∷ told_error 6 45 [] ∷ told_line 7 ∷ told_error 7 22 (codes "bad arguments at 0: unexpected") ∷ [])
    × (summary types_world ≡ sums 7 (clean 7 3 0))
    × (is_journal one_port types_inputs 1000000 1 types_journal ≡ true)

-- 14. Refusals: of a write without a hook, of a path to no node, of mkpeer and connect in the order of their tables, and of a
-- packet by a split's hook out.

abbrev pub refusals_inputs : List Input
refusals_inputs =
    write 1 (codes "a") (1 ∷ [])
    ∷ shutdown 2 (codes "nowhere:")
    ∷ mkpeer 3 (codes ".") (codes "nokind") (codes "a") (codes "x")
    ∷ mkpeer 4 (codes ".") (codes "ether") (codes "a") (codes "x")
    ∷ mkpeer 5 (codes ".") (codes "patch") (codes "a") (codes "in")
    ∷ mkpeer 6 (codes ".") (codes "split") (codes "a") (codes "left")
    ∷ mkpeer 7 (codes ".") (codes "split") (codes "a") (codes "out")
    ∷ mkpeer 8 (codes ".") (codes "hub") (codes "a") (codes "x")
    ∷ write 9 (codes "a") (1 ∷ [])
    ∷ rmhook 10 (codes ".") (codes "b")
    ∷ mkpeer 11 (codes ".") (codes "ether") (codes "a") (codes "x")
    ∷ mkpeer 12 (codes ".") (codes "patch") (codes "a") (codes "in")
    ∷ mkpeer 13 (codes ".") (codes "tee") (codes "a") (codes "x")
    ∷ mkpeer 14 (codes "a") (codes "hub") (codes "x") (codes "x")
    ∷ connect 15 (codes ".") (codes "nowhere:") (codes "a") (codes "y")
    ∷ connect 16 (codes ".") (codes ".") (codes "a") (codes "y")
    ∷ connect 17 (codes "a") (codes ".") (codes "x") (codes "y")
    ∷ []

abbrev pub refusals_journal : List Event
refusals_journal =
    feeds 2 ++ feed_and_serve 1 ++ feed_and_serve 2 ++ feed_and_serve 3 ++ feed_and_serve 4 ++ feed_and_serve 5 ++ feed_and_serve 6
    ++ feed_and_serve 7 ++ feed_and_serve 8 ++ feed_and_serve 9 ++ feed_and_serve 10 ++ feed_and_serve 11 ++ feed_and_serve 12
    ++ feed_and_serve 13 ++ feed_and_serve 14 ++ feed_and_serve 15

-- a command's line and its error
abbrev pub refused_with : ℕ → ℕ → List Told
refused_with n errno = told_line n ∷ told_error n errno [] ∷ []

abbrev pub RefusalsExample : Type 0
RefusalsExample =
    ((world_of [] refusals_inputs refusals_journal).told
    ≡ refused_with 1 57 ++ refused_with 2 2 ++ refused_with 3 6 ++ refused_with 4 1 ++ refused_with 5 23 ++ refused_with 6 22
    ++ (told_line 7 ∷ []) ++ refused_with 8 17 ++ (told_line 9 ∷ []) ++ refused_with 10 2 ++ refused_with 11 1 ++ refused_with 12 23
    ++ refused_with 13 17 ++ refused_with 14 22 ++ refused_with 15 2 ++ refused_with 16 17 ++ refused_with 17 22)
    × (summary (world_of [] refusals_inputs refusals_journal) ≡ sums 17 (record (clean 15 2 2) { refused = 1 }))
    × (is_journal [] refusals_inputs 1000000 1 refusals_journal ≡ true)

-- 15. What is allowed and what isn't, each by a journal that stands and one that doesn't.

-- a packet from an outer hook of two hubs that are joined twice is sent to the other hub by two hooks
abbrev pub two_packets : List Event
two_packets = feed_and_serve 1 ++ feed_and_serve 2 ++ feed_and_serve 3 ++ serve 0 4 ++ serve 0 5 ++ feed_and_serve 6

-- a hub gets a packet by one hook, which is taken, then a shutdown, and then a packet by another hook
abbrev pub waiting_inputs : List Input
waiting_inputs =
    mkpeer 1 (codes "em0:") (codes "hub") (codes "lower") (codes "l")
    ∷ connect 2 (codes ".") (codes "em0:lower") (codes "s") (codes "t")
    ∷ write 3 (codes "s") (1 ∷ [])
    ∷ shutdown 4 (codes "em0:lower")
    ∷ packet 0 5 (9 ∷ [])
    ∷ []

abbrev pub waiting_front : List Event
waiting_front = feed_and_serve 1 ++ feed_and_serve 2 ++ serve 0 3 ++ serve 0 4 ++ Feed ∷ take 5 0 ∷ Feed ∷ Feed ∷ serve 1 7

-- a late command
abbrev pub late_inputs : List Input
late_inputs = packet 0 5 (9 ∷ []) ∷ Late (record { number = 1; line = []; what = Quit }) ∷ []

abbrev pub AllowedExample : Type 0
AllowedExample =
    -- the next command waits for each step of a connect
    (is_journal [] refused_inputs 1000000 1 (half_journal ++ serve 0 5 ++ Feed ∷ []) ≡ false)
    × (is_journal [] refused_inputs 1000000 1 (half_journal ++ serve 0 5 ++ serve 0 6 ++ Feed ∷ []) ≡ true)
    -- a packet waits behind a writer of its node, taken or not
    × (is_journal one_port past_inputs 1000000 2 (past_front ++ take 8 1 ∷ []) ≡ false)
    × (is_journal one_port past_inputs 1000000 2 (past_front ++ Back (item_id 5) ∷ take 8 1 ∷ []) ≡ false)
    × (is_journal one_port past_inputs 1000000 2 (past_front ++ Back (item_id 5) ∷ take 5 1 ∷ []) ≡ true)
    -- also where the writer itself waits, for a packet that is taken
    × (is_journal one_port waiting_inputs 1000000 2 waiting_front ≡ true)
    × (is_journal one_port waiting_inputs 1000000 2 (waiting_front ++ take 8 1 ∷ []) ≡ false)
    × (is_journal one_port waiting_inputs 1000000 2 (waiting_front ++ apply 5 ∷ take 6 1 ∷ []) ≡ true)
    -- a writer waits for a packet of its node that is taken
    × (is_journal one_port again_inputs 1000000 2 (again_front ++ take 7 1 ∷ []) ≡ false)
    -- packets of one hook one after another, packets of two hooks side by side
    × (is_journal one_port shutdown_inputs 1000000 2 (feed_and_serve 1 ++ feeds 2 ++ take 2 0 ∷ take 3 1 ∷ []) ≡ false)
    × (is_journal [] round_inputs 1000000 2 (two_packets ++ take 7 0 ∷ take 8 1 ∷ []) ≡ true)
    -- the least item comes first, and a seat has one at most
    × (is_journal [] round_inputs 1000000 2 (two_packets ++ take 8 0 ∷ []) ≡ false)
    × (is_journal [] round_inputs 1000000 2 (two_packets ++ take 7 0 ∷ take 8 0 ∷ []) ≡ false)
    × (is_journal [] round_inputs 1000000 1 (two_packets ++ take 7 1 ∷ []) ≡ false)
    -- applied and taken items together stay within the limit
    × (is_journal [] round_inputs 7 2 (two_packets ++ take 7 0 ∷ take 8 1 ∷ []) ≡ false)
    -- what is applied was taken
    × (is_journal [] echo_inputs 1000000 1 (Feed ∷ apply 1 ∷ []) ≡ false)
    -- a Stop comes at the limit alone, and nothing follows it
    × (is_journal [] echo_inputs 2 1 (feed_and_serve 1 ++ Stop ∷ []) ≡ false)
    × (is_journal [] echo_inputs 1 1 (feed_and_serve 1 ++ Stop ∷ []) ≡ true)
    × (is_journal [] echo_inputs 1 1 (feed_and_serve 1 ++ Stop ∷ Feed ∷ []) ≡ false)
    -- a late command waits until nothing does
    × (is_journal one_port late_inputs 1000000 1 (feeds 2) ≡ false)
    × (is_journal one_port late_inputs 1000000 1 (feed_and_serve 1 ++ Feed ∷ []) ≡ true)
    × (is_journal [] refused_inputs 1000000 1 (half_journal ++ Feed ∷ []) ≡ false)

-- 16. A port without hooks hands packets to its host; a tick waits for each bridge, and the next tick for both.

abbrev pub ticks_inputs : List Input
ticks_inputs =
    mkpeer 1 (codes ".") (codes "bridge") (codes "a") (codes "link0")
    ∷ mkpeer 2 (codes ".") (codes "bridge") (codes "b") (codes "link31")
    ∷ packet 0 7 (9 ∷ [])
    ∷ Tick 3
    ∷ packet 0 6 (8 ∷ [])
    ∷ Tick 1
    ∷ []

abbrev pub ticks_front : List Event
ticks_front = feed_and_serve 1 ++ feed_and_serve 2 ++ feed_and_serve 3 ++ Feed ∷ Feed ∷ []

abbrev pub tick_of : ℕ → ℕ → Item
tick_of id to = record { id = item_id id; to = node_id to; body = TickBody 3; writer = true; tag = None; stamp = record { 0 = 7 } }

abbrev pub ticks_world : World
ticks_world = world_of one_port ticks_inputs (ticks_front ++ serve 0 4 ++ serve 0 5 ++ serve 0 6)

abbrev pub TicksExample : Type 0
TicksExample =
    (ticks_world.ports ≡ record { leaving = []; fed = 2; up = 2 } ∷ [])
    × (ticks_world.clock ≡ record { 0 = 7 })
    × (first_of 2 (world_of one_port ticks_inputs ticks_front).pending ≡ tick_of 4 3 ∷ tick_of 5 4 ∷ [])
    × (summary ticks_world ≡ sums 5 (clean 6 4 4))
    × (is_journal one_port ticks_inputs 1000000 1 ticks_front ≡ true)
    × (is_journal one_port ticks_inputs 1000000 1 (ticks_front ++ serve 0 4 ++ Feed ∷ []) ≡ false)
    × (is_journal one_port ticks_inputs 1000000 1 (ticks_front ++ serve 0 4 ++ serve 0 5 ++ Feed ∷ []) ≡ true)

-- 17. Questions are answered in bytes, and textstatus is refused.

abbrev pub questions_inputs : List Input
questions_inputs =
    mkpeer 1 (codes ".") (codes "hub") (codes "a") (codes "x")
    ∷ brief 2 (codes "a")
    ∷ listing 3 false
    ∷ listing 4 true
    ∷ types 5
    ∷ status 6 (codes "a")
    ∷ []

abbrev pub questions_journal : List Event
questions_journal =
    feed_and_serve 1 ++ feed_and_serve 2 ++ serve 0 3 ++ feed_and_serve 4 ++ serve 0 5 ++ feed_and_serve 6 ++ serve 0 7
    ++ feed_and_serve 8 ++ serve 0 9 ++ feed_and_serve 10

abbrev pub count : ℕ → List ℕ
count n = n ∷ 0 ∷ 0 ∷ 0 ∷ []

abbrev pub type_row : List ℕ → ℕ → List ℕ
type_row kind n = name_field kind ++ count n

abbrev pub QuestionsExample : Type 0
QuestionsExample =
    ((world_of [] questions_inputs questions_journal).told
    ≡ told_line 1
    ∷ told_line 2 ∷ Answer 2 (node_id 2) 1137070366 0x30000006 (info [] (codes "hub") 2 1)
    ∷ told_line 3 ∷ Answer 3 (node_id 1) 1137070366 0x30000009 (count 2 ++ info (codes "ngctl") (codes "socket") 1 1 ++ info [] (codes "hub") 2 1)
    ∷ told_line 4 ∷ Answer 4 (node_id 1) 1137070366 0x30000008 (count 1 ++ info (codes "ngctl") (codes "socket") 1 1)
    ∷ told_line 5
    ∷ Answer 5 (node_id 1) 1137070366 0x3000000a (count 14 ++ type_row (codes "hub") 1 ++ type_row (codes "hole") 0 ++ type_row (codes "echo") 0
    ++ type_row (codes "tee") 0 ++ type_row (codes "split") 0 ++ type_row (codes "one2many") 0 ++ type_row (codes "bridge") 0
    ++ type_row (codes "vlan") 0 ++ type_row (codes "patch") 0 ++ type_row (codes "bpf") 0 ++ type_row (codes "ether") 0 ++ type_row (codes "socket") 1 ++ type_row (codes "etf") 0 ++ type_row (codes "macset") 0)
    ∷ told_line 6 ∷ told_error 6 45 [] ∷ [])
    × (summary (world_of [] questions_inputs questions_journal) ≡ sums 6 (clean 10 2 2))
    × (is_journal [] questions_inputs 1000000 1 questions_journal ≡ true)

-- 18. An order that is dropped with its node is told ENXIO.

abbrev pub dropped_inputs : List Input
dropped_inputs =
    mkpeer 1 (codes ".") (codes "hub") (codes "a") (codes "x")
    ∷ mkpeer 2 (codes "a") (codes "hub") (codes "p") (codes "q")
    ∷ name 3 (codes "a.p") (codes "nb")
    ∷ shutdown 4 (codes "a")
    ∷ rmhook 5 (codes "nb:") (codes "q")
    ∷ []

abbrev pub dropped_journal : List Event
dropped_journal = feed_and_serve 1 ++ feed_and_serve 2 ++ feed_and_serve 3 ++ feed_and_serve 4 ++ Feed ∷ serve 0 5 ++ serve 0 6

abbrev pub dropped_world : World
dropped_world = world_of [] dropped_inputs dropped_journal

abbrev pub DroppedExample : Type 0
DroppedExample =
    (dropped_world.told ≡ told_line 1 ∷ told_line 2 ∷ told_line 3 ∷ told_line 4 ∷ told_line 5 ∷ told_error 5 6 [] ∷ [])
    × (dropped_world.dropped ≡ (item_id 7, NodeGone) ∷ [])
    × (summary dropped_world ≡ sums 5 (record (clean 6 1 0) { node_gone = 1 }))
    × (is_journal [] dropped_inputs 1000000 1 dropped_journal ≡ true)

-- 19. What is sent out of a hook that isn't joined yet is lost.

abbrev pub unjoined_inputs : List Input
unjoined_inputs =
    mkpeer 1 (codes "em0:") (codes "hub") (codes "lower") (codes "l")
    ∷ mkpeer 2 (codes ".") (codes "hub") (codes "s") (codes "h")
    ∷ name 3 (codes "s") (codes "hh")
    ∷ connect 4 (codes "em0:lower") (codes "hh:") (codes "x") (codes "y")
    ∷ packet 0 5 (9 ∷ [])
    ∷ []

abbrev pub unjoined_journal : List Event
unjoined_journal =
    feed_and_serve 1 ++ feed_and_serve 2 ++ feed_and_serve 3 ++ feed_and_serve 4
    ++ Feed ∷ take 5 0 ∷ serve 1 6 ++ serve 1 7 ++ apply 5 ∷ serve 0 8

abbrev pub UnjoinedExample : Type 0
UnjoinedExample =
    (summary (world_of one_port unjoined_inputs unjoined_journal) ≡ sums 5 (record (clean 8 4 6) { no_peer = 1 }))
    × (is_journal one_port unjoined_inputs 1000000 2 unjoined_journal ≡ true)
