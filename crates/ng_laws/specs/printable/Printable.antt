-- What a run tells can be printed, and what leaves by its ports can be written as captures.
use Rattle.std.specs.Prelude.{◌≡◌, ℕ, ◌+◌, ◌*◌, ◌^◌, ◌<◌, ◌≤◌, List, [], ◌∷◌, Some, IsOk}
use Rattle.ng_base.specs.declared.event.Event.{Event}
use Rattle.ng_base.specs.declared.ids.NodeId.{NodeId}
use Rattle.ng_machine.specs.declared.command.Command.{Command}
use Rattle.ng_machine.specs.declared.input.Input.{Input}
use Rattle.ng_machine.specs.declared.input.Input.TheVariants.{Command as FedCommand, Late, Packet, Tick}
use Rattle.ng_machine.specs.declared.told.Told.TheVariants.{Answer}
use Rattle.ng_machine.specs.KnownRun.{AreFit}
use Rattle.ng_machine.specs.Laws.{Setting, IsJournal, world_after}
use Rattle.ng_machine.specs.LowRun.{IsModest}
use Rattle.ng_machine.specs.Words.{Has, Every}
use Rattle.ng_machine.specs.World.{Port}
use Rattle.ng_parse.specs.Texts.{text_of_bytes}
use Rattle.ng_table.specs.Message.{Message}
use Rattle.ng_table.specs.Table.{find_number}
use Rattle.ng_laws.specs.answers.Answers.{HasNames}
use Rattle.ngctl_print.specs.whole.Captures.{AreWritable}
use Rattle.ngctl_print.specs.whole.Commands.{commands_in}
use Rattle.ngctl_print.specs.whole.Told.{ArePrintable}

-- Inputs whose commands have numbers of their own, as those of a script, and whose packets have times that a capture can say

abbrev pub AscendFrom : ℕ → List Command → Type 0
AscendFrom low [] = Unit {0}
AscendFrom low (command ∷ others) = (low ≤ command.number) × AscendFrom (command.number + 1) others

abbrev pub AreNumbered : Setting → Type 0
AreNumbered s = AscendFrom 0 (commands_in s.given.inputs)

-- the packet came before that time; other inputs bring no time
abbrev pub IsBefore : ℕ → Input → Type 0
IsBefore limit (Packet port stamp packet) = stamp.0 < limit
IsBefore limit (FedCommand command) = Unit {0}
IsBefore limit (Late command) = Unit {0}
IsBefore limit (Tick seconds) = Unit {0}

-- 2^32 seconds, in nanoseconds
abbrev pub end_of_time : ℕ
end_of_time = 2 ^ 32 * 1_000_000_000

abbrev pub AreTimed : Setting → Type 0
AreTimed s = Every (IsBefore end_of_time) s.given.inputs

-- The laws

-- TOLD: each entry that was told can be printed.
abbrev pub ToldIsPrintable : Type 0
ToldIsPrintable =
    (s : Setting) (journal : List Event) → IsJournal s journal → IsModest s → HasNames s → AreNumbered s
    → ArePrintable (commands_in s.given.inputs) (world_after s journal).told

-- the table has a row of the cookie and the number, and the bytes have a text in the shape of its answer
pub record HasText (cookie number : ℕ) (bytes : List ℕ) : Type 0 where
  pub row : Message
  pub found : find_number cookie number ≡ Some row
  pub text : IsOk (text_of_bytes row.answer bytes)

-- ANSWERS: no answer that was told is printed without its row and its text.
abbrev pub AnswersHaveText : Type 0
AnswersHaveText =
    (s : Setting) (journal : List Event) (command : ℕ) (from : NodeId) (cookie number : ℕ) (bytes : List ℕ)
    → IsJournal s journal → IsModest s → HasNames s
    → Has (Answer command from cookie number bytes) (world_after s journal).told → HasText cookie number bytes

-- LEFT: what left by a port can be written as a capture.
abbrev pub LeftIsWritable : Type 0
LeftIsWritable =
    (s : Setting) (journal : List Event) → IsJournal s journal → AreFit s → AreTimed s
    → Every (λ (port : Port). AreWritable port.leaving) (world_after s journal).ports
