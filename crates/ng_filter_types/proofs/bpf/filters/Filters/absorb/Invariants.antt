use Rattle.std.proofs.Common.{◌≡◌, take}
use Rattle.ng_filter_types.specs.bpf.Filters.{hooks_of}
use Rattle.ng_machine.specs.kinds.Bpf.{count_filter}
use Rattle.ng_machine.specs.Counters.{after_counts}
use Rattle.ng_filter_types.proofs.bpf.filters.Filters.absorb.Given as goal

abbrev pub invariant-loop-count : goal.invariant-loop-count
invariant-loop-count l = (l.self ≡ after_counts count_filter l.initial.self (take l.count-index l.counts)) × (hooks_of l.self ≡ hooks_of l.initial.self)
