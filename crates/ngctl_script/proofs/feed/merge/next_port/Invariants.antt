use Rattle.std.proofs.Common.{◌≤◌, drop, length}
use Rattle.ngctl_script.specs.feed.Merge.{next_from}
use Rattle.ngctl_script.specs.feed.Best.{IsBest}
use Rattle.ngctl_script.proofs.feed.merge.next_port.Given as goal

abbrev pub invariant-loop-port : goal.invariant-loop-port
invariant-loop-port l = record {
  best : IsBest l.best (next_from l.port (drop l.port l.queues));
  within : l.port ≤ length l.queues;
}

abbrev pub decreases-loop-port : goal.decreases-loop-port
decreases-loop-port l = l.port
