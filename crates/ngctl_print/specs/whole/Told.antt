-- What is told, as it is printed.
use Rattle.std.specs.Prelude.{ℕ, ◌≤◌, List, length}
use Rattle.ng_base.specs.declared.packet.TheConstants.{MAX_PACKET_LEN}
use Rattle.ng_machine.specs.declared.command.Command.{Command}
use Rattle.ng_machine.specs.declared.told.Told.{Told}
use Rattle.ng_machine.specs.declared.told.Told.TheVariants.{Line, Refused, Help, Answer, Frame}
use Rattle.ng_machine.specs.Words.{Every}
use Rattle.ng_table.specs.Table.{find_number}
use Rattle.ngctl_print.specs.Text.{command_line, refused_line, frame_text}
use Rattle.ngctl_print.specs.whole.Commands.{command_numbered, line_of, asked_by}
use Rattle.ngctl_print.specs.whole.Help.{help_text}
use Rattle.ngctl_print.specs.whole.Answers.{answer_text, FitsAnswer}

-- one entry: a command's line, the error of one that was refused, usages, an answer by what its command asked for and by
-- the message of its cookie and number, or a packet at the socket
abbrev pub told_text : List Command → Told → List ℕ
told_text commands (Line command) = command_line (line_of (command_numbered commands command))
told_text commands (Refused command errno why) = refused_line errno why
told_text commands (Help command) = help_text (asked_by (command_numbered commands command))
told_text commands (Answer command from cookie number bytes) =
    answer_text (asked_by (command_numbered commands command)) from.0 (find_number cookie number) bytes
told_text commands (Frame hook packet) = frame_text hook packet

-- an entry that can be printed: the bytes that columns are made of are all there, and the offsets of a packet's bytes
-- have five digits
abbrev pub IsPrintable : List Command → Told → Type 0
IsPrintable commands (Line command) = Unit {0}
IsPrintable commands (Refused command errno why) = Unit {0}
IsPrintable commands (Help command) = Unit {0}
IsPrintable commands (Answer command from cookie number bytes) = FitsAnswer (asked_by (command_numbered commands command)) bytes
IsPrintable commands (Frame hook packet) = length packet ≤ MAX_PACKET_LEN

abbrev pub ArePrintable : List Command → List Told → Type 0
ArePrintable commands told = Every (IsPrintable commands) told
