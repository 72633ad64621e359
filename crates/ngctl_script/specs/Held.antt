-- What is true of the commands that a script has.
use Rattle.std.specs.Prelude.{◌≡◌, ℕ, ◌+◌, ◌≤◌, List, [], ◌∷◌, length}
use Rattle.ng_machine.specs.declared.command.Command.{Command}
use Rattle.ngctl_script.specs.declared.when.When.{When}
use Rattle.ngctl_script.specs.declared.when.When.TheVariants.{First, After, Late}
use Rattle.ngctl_script.specs.Forms.{what_of}
use Rattle.ngctl_script.specs.Script.{most_commands, most_line}

-- the command is that of its line, and the line isn't too long
pub record IsOfLine (command : Command) : Type 0 where
  pub short : length command.line ≤ most_line
  pub asked : command.what ≡ what_of command.line

-- each is the command of its line, and they have the numbers `n`, `n + 1` and so on
abbrev pub AreFrom : ℕ → List (When × Command) → Type 0
AreFrom n [] = Unit {0}
AreFrom n (timed ∷ others) = (timed.1.number ≡ n) × IsOfLine timed.1 × AreFrom (n + 1) others

-- what is fed then may stand in front of what is fed at the other time
abbrev pub MayPrecede : When → When → Type 0
MayPrecede First when = Unit {0}
MayPrecede (After n) First = ⊥
MayPrecede (After n) (After m) = n ≤ m
MayPrecede (After n) Late = Unit {0}
MayPrecede Late First = ⊥
MayPrecede Late (After m) = ⊥
MayPrecede Late Late = Unit {0}

-- each may stand behind the one before it, and the first behind `last`
abbrev pub AreInOrder : When → List (When × Command) → Type 0
AreInOrder last [] = Unit {0}
AreInOrder last (timed ∷ others) = MayPrecede last timed.0 × AreInOrder timed.0 others

pub record AreCommands (commands : List (When × Command)) : Type 0 where
  pub few : length commands ≤ most_commands
  pub each : AreFrom 1 commands
  pub ordered : AreInOrder First commands
