use Rattle.std.proofs.Common.{◌≡◌, take}
use Rattle.ng_machine.specs.kinds.Bridge.{count_bridge}
use Rattle.ng_machine.specs.Counters.{after_counts}
use Rattle.ng_switch_types.proofs.bridge.bridge.Bridge.absorb.Given as goal

abbrev pub invariant-loop-count : goal.invariant-loop-count
invariant-loop-count l = l.self ≡ after_counts count_bridge l.initial.self (take l.count-index l.counts)
