-- The usages of the commands of ngctl(8), as `help` prints them.
use Rattle.std.specs.Prelude.{ℕ, List, [], ◌++◌, codes, Option, Some, Result, Ok, Err}
use Rattle.std.specs.List.{flat_map}
use Rattle.ng_machine.specs.declared.command.What.{What}
use Rattle.ng_machine.specs.declared.command.What.TheVariants.{Help}
use Rattle.ngctl_script.specs.declared.verb.Verb.{Verb}
use Rattle.ngctl_script.specs.Commands.{verbs, usage, named}
use Rattle.ngctl_print.specs.Dump.{line_feed}

-- two blanks and the usage
unfoldable pub usage_line : Verb → List ℕ
usage_line verb = codes "  " ++ (usage verb ++ line_feed)

abbrev pub usage_of : Result Verb (List ℕ) → List ℕ
usage_of (Ok verb) = usage_line verb
usage_of (Err why) = []

-- the command that the word names, in full or by a prefix; without a word all commands, in order
abbrev pub help_text : Option What → List ℕ
help_text (Some (Help (Some word))) = usage_of (named word)
help_text _ = flat_map usage_line verbs
