-- A script that changes the graph between packets. Such a graph doesn't stand still.
use Rattle.std.specs.Prelude.{ℕ, Bool, true, false, not, ◌&&◌, if◌then◌else◌, List, [], ◌∷◌, Option, Some, None}
use Rattle.ng_machine.specs.declared.command.Command.{Command}
use Rattle.ngctl_script.specs.declared.when.When.{When}
use Rattle.ngctl_script.specs.declared.when.When.TheVariants.{First, Late, After}
use Rattle.ngctl_script.specs.Script.{is_quit}

-- behind a mark with a number, and not behind `@end`
abbrev pub is_between : When → Bool
is_between First = false
is_between Late = false
is_between (After n) = true

-- the `quit` that ends a script changes nothing
abbrev pub moves : When × Command → Bool
moves timed = is_between timed.0 && not (is_quit timed.1.what)

-- the number of the first such command
abbrev pub moving : List (When × Command) → Option ℕ
moving [] = None
moving (timed ∷ script) = if moves timed then Some timed.1.number else moving script
