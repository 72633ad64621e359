use Rattle.std.proofs.Common.{◌≡◌, ◌++◌, take, flat_map}
use Rattle.ng_machine.specs.kinds.Etf.{etf_filter_bytes}
use Rattle.ng_filter_types.proofs.filters.put_filters.Given as goal

abbrev pub invariant-loop-filter : goal.invariant-loop-filter
invariant-loop-filter l = l.out.items ≡ l.initial.out.items ++ flat_map etf_filter_bytes (take l.filter-index l.filters)
