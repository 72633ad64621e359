use Rattle.std.proofs.Common.{◌≡◌, take}
use Rattle.ng_machine.specs.kinds.Bridge.{floods, others}
use Rattle.ng_plan.proofs.bridge_plan.bridge.flood.Given as goal

abbrev pub invariant-loop-link : goal.invariant-loop-link
invariant-loop-link l = l.outcome ≡ floods (others (take l.link-index l.links) l.hook) l.frame l.initial.outcome.counts l.initial.outcome.learn
