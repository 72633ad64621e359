use Rattle.std.proofs.Common.{◌≡◌, ◌++◌, take, flat_map}
use Rattle.ng_machine.specs.kinds.Vlan.{filter_bytes}
use Rattle.ng_switch_types.proofs.vlan.filters.append_filters.Given as goal

abbrev pub invariant-loop-filter : goal.invariant-loop-filter
invariant-loop-filter l = l.out.items ≡ l.initial.out.items ++ flat_map filter_bytes (take l.filter-index l.filters)
