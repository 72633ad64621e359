use Rattle.std.proofs.Common.{◌≡◌, ◌++◌, length, map, take, filter}
use Rattle.ng_base.specs.Names.{has_name}
use Rattle.ng_machine.specs.Counters.{counts_packets}
use Rattle.ng_machine.specs.Outcome.{nothing}
use Rattle.ng_plan.proofs.tee.copy_to.Given as goal

abbrev pub invariant-loop-other : goal.invariant-loop-other
invariant-loop-other l = l.outcome ≡ record nothing {
  sends = map (λ other. (other, l.packet)) (filter (has_name l.hooks) (take l.other-index l.others));
  counts = l.initial.outcome.counts ++ counts_packets 3 2 (filter (has_name l.hooks) (take l.other-index l.others)) (length l.packet);
}
