use Rattle.std.proofs.Common.{◌≡◌, ◌↔◌, ◌+◌, drop}
use Rattle.ngctl_print.specs.whole.Commands.{AreFrom}
use Rattle.ngctl_print.proofs.whole.commands.are_in_order.Given as goal

abbrev pub invariant-loop-command : goal.invariant-loop-command
invariant-loop-command l = (l.next ≡ l.command-index + 1) × (AreFrom 1 l.commands ↔ AreFrom l.next (drop l.command-index l.commands))
