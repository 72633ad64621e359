-- Words for worked examples: commands as ngctl(8) writes them, short journals, and what is looked at after a run.
use Rattle.std.specs.Prelude.{ℕ, zero, suc, Bool, true, false, ◌&&◌, List, [], ◌∷◌, map, find, codes, Option, Some, None}
use Rattle.ng_base.specs.declared.event.Event.{Event}
use Rattle.ng_base.specs.declared.event.Event.TheVariants.{Feed, Take, Apply}
use Rattle.ng_base.specs.declared.kind.Kind.{Kind}
use Rattle.ng_base.specs.declared.kind.Kind.TheVariants.{Hub, Hole, Echo, Tee, Split, Bridge, Ether, Socket}
use Rattle.std.specs.Str.{bytes_eq}
use Rattle.ng_machine.specs.declared.command.What.{What}
use Rattle.ng_machine.specs.declared.command.What.TheVariants.{Connect, List as Lists, Mkpeer, Msg, Name, Rmhook, Show, Shutdown, Status, Types, Write}
use Rattle.ng_machine.specs.declared.input.Input.{Input}
use Rattle.ng_machine.specs.declared.input.Input.TheVariants.{Command, Packet}
use Rattle.ng_machine.specs.declared.item.Item.{Item}
use Rattle.ng_machine.specs.declared.told.Told.{Told}
use Rattle.ng_machine.specs.declared.told.Told.TheVariants.{Line, Refused, Frame as ToldFrame}
use Rattle.ng_machine.specs.Words.{is_empty}
use Rattle.ng_base.specs.Kind.{cookie_of}
use Rattle.ng_machine.specs.declared.totals.Totals.{Totals}
use Rattle.ng_machine.specs.Totals.{totals_of}
use Rattle.ng_machine.specs.World.{World, NodeRecord, start_of, node_at, node_id, item_id}
use Rattle.ng_machine.specs.Feed.{RunInput, Reading, NoSuchMessage, BadArguments, Reads}
use Rattle.ng_machine.specs.Run.{RunState, after_all, beginning}
use Rattle.ng_machine.specs.Tests.{is_orderly, may_take}

-- Commands

abbrev pub line : ℕ → What → Input
line n what = Command (record { number = n; line = []; what = what })

abbrev pub mkpeer : ℕ → List ℕ → List ℕ → List ℕ → List ℕ → Input
mkpeer n path kind hook peerhook = line n (Mkpeer (Some path) kind hook peerhook)

abbrev pub connect : ℕ → List ℕ → List ℕ → List ℕ → List ℕ → Input
connect n path other hook peerhook = line n (Connect (Some path) other hook peerhook)

abbrev pub name : ℕ → List ℕ → List ℕ → Input
name n path new = line n (Name path new)

abbrev pub rmhook : ℕ → List ℕ → List ℕ → Input
rmhook n path hook = line n (Rmhook (Some path) hook)

abbrev pub shutdown : ℕ → List ℕ → Input
shutdown n path = line n (Shutdown path)

abbrev pub show : ℕ → List ℕ → Input
show n path = line n (Show false path)

abbrev pub brief : ℕ → List ℕ → Input
brief n path = line n (Show true path)

abbrev pub listing : ℕ → Bool → Input
listing n named = line n (Lists named)

abbrev pub types : ℕ → Input
types n = line n Types

abbrev pub status : ℕ → List ℕ → Input
status n path = line n (Status path)

abbrev pub msg : ℕ → List ℕ → List ℕ → List ℕ → Input
msg n path command args = line n (Msg path command args)

abbrev pub write : ℕ → List ℕ → List ℕ → Input
write n hook bytes = line n (Write hook bytes)

abbrev pub packet : ℕ → ℕ → List ℕ → Input
packet port time bytes = Packet port (record { 0 = time }) bytes

-- The type's messages that the examples send, without arguments or with the argument 1
abbrev pub read_hub : Bool → Bool → Reading
read_hub true true = Reads (cookie_of Hub) 1 []
read_hub true false = BadArguments (codes "bad arguments at 0: unexpected")
read_hub false is_bare = NoSuchMessage

abbrev pub read_ether : Bool → Bool → Reading
read_ether true is_get = Reads (cookie_of Ether) 1 (1 ∷ 0 ∷ 0 ∷ 0 ∷ [])
read_ether false true = Reads (cookie_of Ether) 0x30000002 []
read_ether false false = NoSuchMessage

abbrev pub reading : Kind → List ℕ → List ℕ → Reading
reading Hub command args = read_hub (bytes_eq command (codes "setpersistent")) (is_empty args)
reading Ether command args = read_ether (bytes_eq command (codes "setpromisc") && bytes_eq args (codes "1")) (bytes_eq command (codes "getpromisc"))
reading Hole command args = NoSuchMessage
reading Echo command args = NoSuchMessage
reading Tee command args = NoSuchMessage
reading Split command args = NoSuchMessage
reading Socket command args = NoSuchMessage
reading _ command args = NoSuchMessage

abbrev pub given : List Input → RunInput
given inputs = record { inputs = inputs; reading = reading }

-- Beginnings: the own name is ngctl, and there are blank nodes enough

abbrev pub stock : List Kind
stock = Socket ∷ Ether ∷ Ether ∷ Hub ∷ Hub ∷ Hub ∷ Hole ∷ Hole ∷ Hole ∷ Echo ∷ Split ∷ Tee ∷ Bridge ∷ Bridge ∷ []

abbrev pub begin : List (List ℕ) → World
begin ports = start_of (codes "ngctl") ports stock

-- Events

abbrev pub take : ℕ → ℕ → Event
take id seat = Take seat (item_id id)

abbrev pub apply : ℕ → Event
apply id = Apply (item_id id)

-- taken by the seat and applied at once
abbrev pub serve : ℕ → ℕ → List Event
serve seat id = take id seat ∷ apply id ∷ []

-- fed, taken by the first seat and applied
abbrev pub feed_and_serve : ℕ → List Event
feed_and_serve id = Feed ∷ serve 0 id

abbrev pub feeds : ℕ → List Event
feeds zero = []
feeds (suc n) = Feed ∷ feeds n

abbrev pub world_of : List (List ℕ) → List Input → List Event → World
world_of ports inputs journal = (after_all (given inputs) (beginning (begin ports)) journal).world

abbrev pub is_journal : List (List ℕ) → List Input → ℕ → ℕ → List Event → Bool
is_journal ports inputs budget seats journal = is_orderly (begin ports) (given inputs) budget seats journal

-- What is looked at

abbrev pub told_line : ℕ → Told
told_line n = Line n

abbrev pub told_error : ℕ → ℕ → List ℕ → Told
told_error n errno why = Refused n (record { 0 = errno }) why

abbrev pub told_packet : List ℕ → List ℕ → Told
told_packet hook bytes = ToldFrame hook bytes

-- a node's hooks: name, link and whether joined
abbrev pub hooks_of_row : Option NodeRecord → List (List ℕ × ℕ × Bool)
hooks_of_row None = []
hooks_of_row (Some row) = map (λ h. (h.name, h.link.0, h.joined)) row.hooks

abbrev pub hooks_at : World → ℕ → List (List ℕ × ℕ × Bool)
hooks_at w n = hooks_of_row (node_at w (node_id n))

-- the first item that may be taken
abbrev pub next_at : RunState → Option Item
next_at at = find (may_take at) at.world.pending

-- the numbers of a run's summary: how many inputs were fed, and the totals
pub record Summary : Type 0 where
  pub fed : ℕ
  pub totals : Totals

abbrev pub summary : World → Summary
summary w = record { fed = w.fed; totals = totals_of w }

-- the summary of a run, and of one in which nothing is dropped, lost or refused: applied items, nodes and hooks
abbrev pub sums : ℕ → Totals → Summary
sums fed totals = record { fed = fed; totals = totals }

abbrev pub clean : ℕ → ℕ → ℕ → Totals
clean applied nodes hooks = record {
  applied = applied;
  refused = 0;
  node_gone = 0;
  hook_gone = 0;
  budget = 0;
  no_peer = 0;
  peer_gone = 0;
  full = 0;
  spool = 0;
  nodes = nodes;
  hooks = hooks;
}
