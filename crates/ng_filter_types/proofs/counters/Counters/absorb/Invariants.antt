use Rattle.std.proofs.Common.{◌≡◌, take}
use Rattle.ng_machine.specs.Counters.{after_counts}
use Rattle.ng_filter_types.specs.Counts.{count_number}
use Rattle.ng_filter_types.proofs.counters.Counters.absorb.Given as goal

abbrev pub invariant-loop-count : goal.invariant-loop-count
invariant-loop-count l = l.self ≡ after_counts count_number l.initial.self (take l.count-index l.counts)
