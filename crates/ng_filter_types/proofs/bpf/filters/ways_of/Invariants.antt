use Rattle.std.proofs.Common.{◌≡◌, map, take}
use Rattle.ng_machine.specs.kinds.Bpf.{Filter}
use Rattle.ng_filter_types.proofs.bpf.filters.ways_of.Given as goal

abbrev pub invariant-loop-filter : goal.invariant-loop-filter
invariant-loop-filter l = l.ways.items ≡ map (λ (f : Filter). f.way) (take l.filter-index l.filters)
