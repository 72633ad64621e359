-- What the bytes of a script are: its first line that has a fault, or its commands. The limits, and that a mark isn't
-- below the one before it, are this project's own.
use Rattle.std.specs.Prelude.{◌≡◌, ℕ, ◌+◌, Bool, true, false, nat_le, nat_lt, if◌then◌else◌, List, [], ◌∷◌, length, Option, Some, None}
use Rattle.ng_machine.specs.declared.command.Command.{Command}
use Rattle.ng_machine.specs.declared.command.What.{What}
use Rattle.ng_machine.specs.declared.command.What.TheVariants as asks
use Rattle.ngctl_script.specs.declared.fault.ScriptFault.{ScriptFault}
use Rattle.ngctl_script.specs.declared.fault.ScriptFault.TheVariants.{LineTooLong, BadMark, TooMany, NoMemory}
use Rattle.ngctl_script.specs.declared.when.When.{When}
use Rattle.ngctl_script.specs.declared.when.When.TheVariants.{First, Late, After}
use Rattle.ngctl_script.specs.Lines.{Line, Skipped, Mark, Command as CommandLine, line_of, lines_of}
use Rattle.ngctl_script.specs.Forms.{what_of}

abbrev pub most_line : ℕ
most_line = 4096

abbrev pub most_commands : ℕ
most_commands = 4096

-- What stood before a line: the last mark, and how many commands.
pub record Before : Type 0 where
  pub when : When
  pub commands : ℕ

abbrev pub none_before : Before
none_before = record { when = First; commands = 0 }

abbrev pub past : Before → Line → Before
past before Skipped = before
past before (Mark None) = before
past before (Mark (Some when)) = record before { when = when }
past before (CommandLine line) = record before { commands = before.commands + 1 }

-- a mark may stand behind another: `@end` anywhere, and a number behind none that is greater, and not behind `@end`
abbrev pub may_follow : When → Option When → Bool
may_follow last (Some Late) = true
may_follow First (Some (After n)) = true
may_follow (After last) (Some (After n)) = nat_le last n
may_follow _ _ = false

abbrev pub is_wrong : Before → Line → Bool
is_wrong before (Mark mark) = if may_follow before.when mark then false else true
is_wrong before Skipped = false
is_wrong before (CommandLine line) = false

abbrev pub is_more : Before → Line → Bool
is_more before (CommandLine line) = nat_le most_commands before.commands
is_more before Skipped = false
is_more before (Mark mark) = false

-- what is wrong with the line of that number
abbrev pub fault_of : ℕ → Before → List ℕ → Option ScriptFault
fault_of number before line =
    if nat_lt most_line (length line) then Some (LineTooLong number)
    else if is_wrong before (line_of line) then Some (BadMark number)
    else if is_more before (line_of line) then Some (TooMany number)
    else None

abbrev pub or_else : Option ScriptFault → Option ScriptFault → Option ScriptFault
or_else None later = later
or_else (Some fault) later = Some fault

abbrev pub fault_from : ℕ → Before → List (List ℕ) → Option ScriptFault
fault_from number before [] = None
fault_from number before (line ∷ lines) = or_else (fault_of number before line) (fault_from (number + 1) (past before (line_of line)) lines)

-- the first line that has a fault
abbrev pub script_fault : List ℕ → Option ScriptFault
script_fault bytes = fault_from 1 none_before (lines_of bytes)

-- A fault that is told is the one that was found; out of memory alone has no cause.
abbrev pub IsTold : Option ScriptFault → ScriptFault → Type 0
IsTold found NoMemory = Unit {0}
IsTold found (LineTooLong line) = found ≡ Some (LineTooLong line)
IsTold found (BadMark line) = found ≡ Some (BadMark line)
IsTold found (TooMany line) = found ≡ Some (TooMany line)

-- the fault is the first that the bytes have
abbrev pub IsFaultOf : List ℕ → ScriptFault → Type 0
IsFaultOf bytes fault = IsTold (script_fault bytes) fault

-- A command, and when it is fed. Commands count from 1, and none follows the first `quit`.

abbrev pub command_of : ℕ → List ℕ → Command
command_of number line = record { number = number; line = line; what = what_of line }

abbrev pub is_quit : What → Bool
is_quit asks.Quit = true
is_quit _ = false

abbrev pub until_quit : When × Command → List (When × Command) → List (When × Command)
until_quit timed rest = if is_quit timed.1.what then timed ∷ [] else timed ∷ rest

abbrev pub commands_at : Before → Line → List (When × Command) → List (When × Command)
commands_at before Skipped rest = rest
commands_at before (Mark mark) rest = rest
commands_at before (CommandLine line) rest = until_quit (before.when, command_of (before.commands + 1) line) rest

abbrev pub commands_from : Before → List (List ℕ) → List (When × Command)
commands_from before [] = []
commands_from before (line ∷ lines) = commands_at before (line_of line) (commands_from (past before (line_of line)) lines)

-- the commands of a script, in order
abbrev pub commands_of : List ℕ → List (When × Command)
commands_of bytes = commands_from none_before (lines_of bytes)
