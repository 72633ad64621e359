use Rattle.std.proofs.Common.{◌≡◌, map, take, drop, ◌++◌, if◌then◌else◌, ◌==◌}
use Rattle.ng_switch_types.proofs.one2many.one2many.make_flags.Given as goal

abbrev pub invariant-loop-value : goal.invariant-loop-value
invariant-loop-value l = l.values ≡ map (λ value. if value == 0 then 0 else 1) (take l.value-index l.initial.values) ++ drop l.value-index l.initial.values
