use Rattle.std.proofs.Common.{◌≡◌, map, take}
use Rattle.ng_plan.proofs.lookup.sending.send_to.Given as goal

abbrev pub invariant-loop-hook : goal.invariant-loop-hook
invariant-loop-hook l = l.sends ≡ map (λ hook. (hook, l.packet)) (take l.hook-index l.hooks)
