use Rattle.std.proofs.Common.{◌≡◌, map}
use Rattle.ngctl_script.proofs.feed.list.queues_of.Given as goal

abbrev pub invariant-loop-capture : goal.invariant-loop-capture
invariant-loop-capture l = l.queues.items ≡ map (λ capture. capture.kept) l.yielded
