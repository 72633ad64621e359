-- What is known of each answer of a run: which command asked for it, in which row of the table of control messages it
-- stands, and that its bytes have the layout and the length of that row's answer.
use Rattle.std.specs.Prelude.{◌≡◌, ℕ, ◌<◌, true, List, slice_get, Some, IsOk}
use Rattle.ng_base.specs.Name.{IsName}
use Rattle.ng_base.specs.declared.event.Event.{Event}
use Rattle.ng_base.specs.declared.ids.NodeId.{NodeId}
use Rattle.ng_base.specs.declared.kind.Kind.{Kind}
use Rattle.ng_message.specs.Numbers.{generic_cookie}
use Rattle.ng_message.specs.declared.message.Msg.{Msg as Message}
use Rattle.ng_shape.specs.Shape.{Shape}
use Rattle.ng_shape.specs.Decoding.{value_from}
use Rattle.ng_table.specs.Message.{Message as RowMessage}
use Rattle.ng_table.specs.Table.{find_number}
use Rattle.ng_machine.specs.declared.body.Body.TheVariants.{Msg}
use Rattle.ng_machine.specs.declared.input.Input.{Input}
use Rattle.ng_machine.specs.declared.input.Input.TheVariants.{Command, Late, Packet, Tick}
use Rattle.ng_machine.specs.declared.item.Item.{Item}
use Rattle.ng_machine.specs.declared.told.Told.TheVariants.{Answer, Help}
use Rattle.ng_machine.specs.Words.{Has, Every}
use Rattle.ng_machine.specs.World.{World}
use Rattle.ng_machine.specs.Effect.{is_answer}
use Rattle.ng_machine.specs.Feed.{RunInput, Reads, Request, RefusedFor, Helps, Nothing, Orders, Asks, Writes, request_of}
use Rattle.ng_machine.specs.Laws.{Setting, IsJournal, world_after}
use Rattle.ng_machine.specs.LowRun.{IsModest}

-- What a command asks for

-- a request is for the message of this cookie and number: a generic order by its number, and a message by its name as it
-- is read for some type of node
abbrev pub IsRequestFor : RunInput → Request → ℕ → ℕ → Type 0
IsRequestFor given (Orders path n name args) cookie number = (cookie ≡ generic_cookie) × (number ≡ n)
IsRequestFor given (Asks path name text) cookie number =
    (kind : Kind) × (args : List ℕ) × (given.reading kind name text ≡ Reads cookie number args)
IsRequestFor given (RefusedFor why) cookie number = ⊥
IsRequestFor given Helps cookie number = ⊥
IsRequestFor given Nothing cookie number = ⊥
IsRequestFor given (Writes hook bytes) cookie number = ⊥

-- an input is the command of this number, and what it requests meets P
abbrev pub IsCommandThat : (Request → Type 0) → ℕ → Input → Type 0
IsCommandThat P number (Command line) = (line.number ≡ number) × P (request_of line.what)
IsCommandThat P number (Late line) = (line.number ≡ number) × P (request_of line.what)
IsCommandThat P number (Packet port stamp packet) = ⊥
IsCommandThat P number (Tick seconds) = ⊥

-- one of the first inputs, as many as were fed, is the command of this number, and what it requests meets P
pub record WasFed (given : RunInput) (fed : ℕ) (P : Request → Type 0) (number : ℕ) : Type 0 where
  pub place : ℕ
  pub input : Input
  pub below : place < fed
  pub there : slice_get given.inputs place ≡ Some input
  pub is : IsCommandThat P number input

-- a fed command of this number asked for the message of this cookie and number
abbrev pub WasAsked : RunInput → ℕ → ℕ → ℕ → ℕ → Type 0
WasAsked given fed command cookie number = WasFed given fed (λ request. IsRequestFor given request cookie number) command

-- a fed command of this number was `help`
abbrev pub WasHelp : RunInput → ℕ → ℕ → Type 0
WasHelp given fed command = WasFed given fed (λ request. request ≡ Helps) command

-- What an answer is

-- the bytes are all that a value of the shape is laid out in: none is missing, and none is behind it
abbrev pub HasLayout : Shape → List ℕ → Type 0
HasLayout shape bytes = IsOk (value_from shape bytes)

-- the table has a row of the cookie and the number, and the bytes have the layout and the length of the row's answer
pub record HasRow (cookie number : ℕ) (bytes : List ℕ) : Type 0 where
  pub row : RowMessage
  pub found : find_number cookie number ≡ Some row
  pub layout : HasLayout row.answer bytes

-- bytes that answer what a fed command of this number asked for
pub record IsAnswer (given : RunInput) (fed command cookie number : ℕ) (bytes : List ℕ) : Type 0 where
  pub asked : WasAsked given fed command cookie number
  pub row : HasRow cookie number bytes

-- P, of a command's number, a cookie, a message's number and bytes, holds of each answer of a world: of one that is
-- pending with its tag, and of one that was told with its command
pub record OfEachAnswer (P : ℕ → ℕ → ℕ → List ℕ → Type 0) (w : World) : Type 0 where
  pub pending : (item : Item) (msg : Message) → Has item w.pending → item.body ≡ Msg msg → is_answer msg ≡ true
      → (command : ℕ) × (item.tag ≡ Some command) × P command msg.header.typecookie msg.header.cmd msg.args
  pub told : (command : ℕ) (from : NodeId) (cookie number : ℕ) (bytes : List ℕ)
      → Has (Answer command from cookie number bytes) w.told → P command cookie number bytes

-- The laws

-- ASKED: what is answered is what a fed command of the answer's number asked for.
abbrev pub AnswersWereAsked : Type 0
AnswersWereAsked =
    (s : Setting) (journal : List Event) → IsJournal s journal
    → OfEachAnswer (λ command cookie number bytes. WasAsked s.given (world_after s journal).fed command cookie number)
    (world_after s journal)

-- HELP: a command that help is told for is a fed `help`.
abbrev pub HelpsWereFed : Type 0
HelpsWereFed =
    (s : Setting) (journal : List Event) (command : ℕ) → IsJournal s journal
    → Has (Help command) (world_after s journal).told → WasHelp s.given (world_after s journal).fed command

-- the own node and the ports have names
pub record HasNames (s : Setting) : Type 0 where
  pub own : IsName s.own
  pub ports : Every IsName s.ports

-- ANSWERS: what is answered is what a fed command asked for, and stands in a row of the table, whose answer's layout and
-- length it has.
abbrev pub AnswersHaveRows : Type 0
AnswersHaveRows =
    (s : Setting) (journal : List Event) → IsJournal s journal → IsModest s → HasNames s
    → OfEachAnswer (IsAnswer s.given (world_after s journal).fed) (world_after s journal)
