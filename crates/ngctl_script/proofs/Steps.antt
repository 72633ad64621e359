-- What was read of a script, a line at a time.
use Rattle.std.proofs.Common.{◌≡◌, ℕ, ◌+◌, Bool, true, false, List, [], None, refl, ap, subst, ◌∙◌}
use Rattle.std.proofs.lemmas.List.{append-nil}
use Rattle.ng_machine.specs.declared.command.Command.{Command}
use Rattle.ngctl_script.specs.declared.when.When.{When}
use Rattle.ngctl_script.specs.declared.reading.Reading.{Reading}
use Rattle.ngctl_script.specs.Script.{fault_from, script_fault, commands_from, commands_of}
use Rattle.ngctl_script.specs.Reading.{before_of, joined, unless_over}
use Rattle.ngctl_script.specs.Held.{AreCommands}
use Rattle.ngctl_script.proofs.Orderly.{are_commands}

-- the script is what was read, and then the lines that follow
pub record IsReadSoFar (bytes : List ℕ) (reading : Reading) (lines : List (List ℕ)) : Type 0 where
  pub fault : script_fault bytes ≡ fault_from (reading.number + 1) (before_of reading) lines
  pub commands : commands_of bytes ≡ joined reading (commands_from (before_of reading) lines)

pub none_told : (bytes : List ℕ) (reading : Reading) (lines : List (List ℕ)) → IsReadSoFar bytes reading lines → lines ≡ [] → script_fault bytes ≡ None
none_told bytes reading lines is none = is.fault ∙ ap (fault_from (reading.number + 1) (before_of reading)) none

joined_nothing : (over : Bool) (commands : List (When × Command)) → unless_over over commands [] ≡ commands
joined_nothing true commands = refl
joined_nothing false commands = append-nil commands

pub all_read : (bytes : List ℕ) (reading : Reading) (lines : List (List ℕ)) → IsReadSoFar bytes reading lines → lines ≡ []
    → commands_of bytes ≡ reading.commands.items
all_read bytes reading lines is none =
    is.commands ∙ ap (λ (all : List (List ℕ)). joined reading (commands_from (before_of reading) all)) none
    ∙ joined_nothing reading.is_over reading.commands.items

pub read_in_order : (bytes : List ℕ) (reading : Reading) (lines : List (List ℕ)) → IsReadSoFar bytes reading lines → lines ≡ []
    → AreCommands reading.commands.items
read_in_order bytes reading lines is none =
    subst AreCommands (all_read bytes reading lines is none) (are_commands bytes (none_told bytes reading lines is none))
