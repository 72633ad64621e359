use Rattle.std.proofs.Common.{◌≡◌, ◌++◌, take, filter, flat_map}
use Rattle.ng_core_apply.specs.orders.Asked.{hook_bytes}
use Rattle.ng_core_apply.proofs.orders.asking.put_hooks.Given as goal

abbrev pub invariant-loop-hook : goal.invariant-loop-hook
invariant-loop-hook g l = l.out.items ≡ l.initial.out.items ++ flat_map (hook_bytes l.graph.nodes) (filter (λ h. h.joined) (take l.hook-index l.hooks))
