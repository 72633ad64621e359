use Rattle.std.proofs.Common.{◌≡◌, map}
use Rattle.ng_call.proofs.parse.commands_alone.Given as goal

abbrev pub invariant-loop-timed : goal.invariant-loop-timed
invariant-loop-timed l = l.commands.items ≡ map (λ timed. timed.1) l.yielded
