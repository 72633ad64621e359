-- The commands of a run, by their numbers.
use Rattle.std.specs.Prelude.{◌≡◌, ℕ, ◌+◌, ◌==◌, List, [], ◌∷◌, find, option_map, Option, Some, None}
use Rattle.ng_machine.specs.declared.command.Command.{Command}
use Rattle.ng_machine.specs.declared.command.What.{What}
use Rattle.ng_machine.specs.declared.input.Input.{Input}
use Rattle.ng_machine.specs.declared.input.Input.TheVariants.{Command as Fed, Late, Packet, Tick}

-- the first command of that number
abbrev pub command_numbered : List Command → ℕ → Option Command
command_numbered commands number = find (λ command. command.number == number) commands

-- the numbers n, n + 1 and so on, as those of a script from 1 on
abbrev pub AreFrom : ℕ → List Command → Type 0
AreFrom n [] = Unit {0}
AreFrom n (command ∷ others) = (command.number ≡ n) × AreFrom (n + 1) others

-- its line, without the blanks at its ends; no bytes where there is no command
abbrev pub line_of : Option Command → List ℕ
line_of None = []
line_of (Some command) = command.line

-- what it asks for
abbrev pub asked_by : Option Command → Option What
asked_by command = option_map (λ c. c.what) command

-- the commands among inputs, in order
abbrev pub commands_in : List Input → List Command
commands_in [] = []
commands_in (Fed command ∷ inputs) = command ∷ commands_in inputs
commands_in (Late command ∷ inputs) = command ∷ commands_in inputs
commands_in (Packet port stamp packet ∷ inputs) = commands_in inputs
commands_in (Tick seconds ∷ inputs) = commands_in inputs
