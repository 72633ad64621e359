use Rattle.std.proofs.Common.{◌≡◌, ◌++◌, map, length}
use Rattle.ng_machine.specs.declared.input.Input.TheVariants.{Late}
use Rattle.ngctl_script.proofs.feed.commands.Commands.feed_late.Given as goal

abbrev pub invariant-loop-command : goal.invariant-loop-command
invariant-loop-command l = l.inputs.items ++ map (λ timed. Late timed.1) l.self ≡ l.initial.inputs.items ++ map (λ timed. Late timed.1) l.initial.self

abbrev pub decreases-loop-command : goal.decreases-loop-command
decreases-loop-command l = length l.self
