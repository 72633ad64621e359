use Rattle.std.proofs.Common.{◌≡◌, ◌++◌, flat_map, take}
use Rattle.ng_core_apply.specs.orders.Asked.{type_bytes}
use Rattle.ng_core_apply.proofs.orders.asking.put_types.Given as goal

abbrev pub invariant-loop-kind : goal.invariant-loop-kind
invariant-loop-kind l = l.out.items ≡ l.initial.out.items ++ flat_map (type_bytes l.counts) (take l.kind-index l.kinds)
