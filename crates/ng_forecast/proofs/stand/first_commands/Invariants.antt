use Rattle.std.proofs.Common.{◌≡◌}
use Rattle.ngctl_script.specs.feed.Inputs.{commands_that, is_first}
use Rattle.ng_forecast.proofs.stand.first_commands.Given as goal

abbrev pub invariant-loop-when : goal.invariant-loop-when
invariant-loop-when l = l.inputs.items ≡ commands_that is_first l.yielded
