-- Words for worked examples of the types of nodes. A message's arguments stand in a command as their bytes, so that no text is
-- read; the numbers of messages are in the tables of the types.
use Rattle.std.specs.Prelude.{ℕ, ◌*◌, Bool, if◌then◌else◌, List, [], ◌∷◌, ◌++◌, map, codes, Option, Some, None}
use Rattle.std.specs.Str.{bytes_eq}
use Rattle.byteorder.specs.Endian.{little_bytes}
use Rattle.ng_base.specs.declared.event.Event.{Event}
use Rattle.ng_base.specs.declared.kind.Kind.{Kind}
use Rattle.ng_base.specs.declared.kind.Kind.TheVariants.{Hub, Hole, Echo, Tee, Split, One2many, Bridge, Vlan, Patch, Bpf, Ether, Socket, Etf, Macset}
use Rattle.ng_message.specs.Fields.{name_field}
use Rattle.ng_machine.specs.declared.command.What.TheVariants.{Msg}
use Rattle.ng_machine.specs.declared.input.Input.{Input}
use Rattle.ng_machine.specs.declared.input.Input.TheVariants.{Late, Packet}
use Rattle.ng_machine.specs.declared.told.Told.{Told}
use Rattle.ng_machine.specs.declared.told.Told.TheVariants.{Answer}
use Rattle.ng_base.specs.Kind.{cookie_of}
use Rattle.ng_machine.specs.World.{World, Port, start_of, node_id}
use Rattle.ng_machine.specs.Feed.{RunInput, Reading, NoSuchMessage, Reads}
use Rattle.ng_machine.specs.Run.{after_all, beginning}
use Rattle.ng_machine.specs.Tests.{is_orderly}
use Rattle.ng_machine.specs.PlainSteps.{Stretch, plain_steps}

-- the messages that the examples send
abbrev pub numbers : Kind → List (List ℕ × ℕ)
numbers Hub = (codes "setpersistent", 1) ∷ []
numbers Tee = (codes "getstats", 0x20000001) ∷ (codes "clrstats", 2) ∷ (codes "getclrstats", 0x20000003) ∷ []
numbers One2many = (codes "setconfig", 1) ∷ (codes "getconfig", 0x30000002) ∷ (codes "getstats", 0x20000003) ∷ []
numbers Bridge = (codes "getstats", 0x20000004) ∷ (codes "gettable", 0x20000007) ∷ (codes "setpersistent", 8) ∷ []
numbers Vlan = (codes "addfilter", 1) ∷ (codes "delfilter", 2) ∷ (codes "gettable", 0x30000003) ∷ (codes "settagtype", 4) ∷ (codes "gettagtype", 0x30000005) ∷ []
numbers Patch = (codes "setconfig", 1) ∷ (codes "getconfig", 0x30000002) ∷ []
numbers Bpf = (codes "setprogram", 1) ∷ (codes "getprogram", 0x30000002) ∷ (codes "getstats", 0x20000003) ∷ []
numbers Etf = (codes "setfilter", 1) ∷ (codes "getstatus", 0x20000002) ∷ (codes "gettable", 0x30000003) ∷ []
numbers Macset = (codes "add", 1) ∷ (codes "del", 2) ∷ (codes "gettable", 0x30000003) ∷ (codes "getstats", 0x20000004) ∷ []
numbers _ = []

abbrev pub number_of : List ℕ → List (List ℕ × ℕ) → Option ℕ
number_of command [] = None
number_of command (row ∷ rows) = if bytes_eq row.0 command then Some row.1 else number_of command rows

abbrev pub read_as : Kind → Option ℕ → List ℕ → Reading
read_as kind None args = NoSuchMessage
read_as kind (Some number) args = Reads (cookie_of kind) number args

abbrev pub as_bytes : Kind → List ℕ → List ℕ → Reading
as_bytes kind command args = read_as kind (number_of command (numbers kind)) args

abbrev pub given_bytes : List Input → RunInput
given_bytes inputs = record { inputs = inputs; reading = as_bytes }

-- two of each type
abbrev pub full_stock : List Kind
full_stock =
    Socket ∷ Ether ∷ Ether ∷ Hub ∷ Hub ∷ Hole ∷ Echo ∷ Tee ∷ Split ∷ One2many ∷ Bridge ∷ Vlan ∷ Patch ∷ Bpf ∷ Etf ∷ Macset ∷ []

abbrev pub full_begin : List (List ℕ) → World
full_begin ports = start_of (codes "ngctl") ports full_stock

-- the plain run of inputs, of at most 200 steps
abbrev pub plain : List (List ℕ) → RunInput → Stretch
plain ports given = plain_steps 200 given (full_begin ports)

-- its world
abbrev pub world_by : List (List ℕ) → RunInput → World
world_by ports given = (plain ports given).world

-- and whether its journal is orderly for one seat
abbrev pub is_plain_run : List (List ℕ) → RunInput → Bool
is_plain_run ports given = is_orderly (full_begin ports) given 1000000 1 (plain ports given).events

-- the world after a journal
abbrev pub world_after : List (List ℕ) → List Input → List Event → World
world_after ports inputs journal = (after_all (given_bytes inputs) (beginning (full_begin ports)) journal).world

abbrev pub is_seated : List (List ℕ) → List Input → ℕ → List Event → Bool
is_seated ports inputs seats journal = is_orderly (full_begin ports) (given_bytes inputs) 1000000 seats journal

-- a message after the mark @end
abbrev pub late : ℕ → List ℕ → List ℕ → List ℕ → Input
late n path command args = Late (record { number = n; line = []; what = Msg path command args })

-- a packet at so many milliseconds
abbrev pub packet_at : ℕ → ℕ → List ℕ → Input
packet_at port milliseconds bytes = Packet port (record { 0 = milliseconds * 1000000 }) bytes

abbrev pub answered : ℕ → ℕ → Kind → ℕ → List ℕ → Told
answered command node kind number bytes = Answer command (node_id node) (cookie_of kind) number bytes

-- the packets that left by each port
abbrev pub left_by : World → List (List (List ℕ))
left_by w = map (λ (port : Port). map (λ x. x.1) port.leaving) w.ports

-- numbers of 64 bits
abbrev pub sixty_fours : List ℕ → List ℕ
sixty_fours [] = []
sixty_fours (n ∷ ns) = little_bytes 8 n ++ sixty_fours ns

abbrev pub number : ℕ → List ℕ
number n = little_bytes 4 n

abbrev pub short : ℕ → List ℕ
short n = little_bytes 2 n
