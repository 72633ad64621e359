use Rattle.std.proofs.Common.{◌≡◌, ◌++◌, take}
use Rattle.ng_machine.specs.Counters.{row_bytes}
use Rattle.ng_switch_types.proofs.one2many.rows.put_counters.Given as goal

abbrev pub invariant-loop-counter : goal.invariant-loop-counter
invariant-loop-counter l = l.out.items ≡ l.initial.out.items ++ row_bytes (take l.counter-index l.counters)
