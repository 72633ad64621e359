use Rattle.std.proofs.Common.{◌≡◌, ◌++◌, take}
use Rattle.ng_machine.specs.Counters.{row_bytes}
use Rattle.ng_filter_types.proofs.bpf.filter.put_row.Given as goal

abbrev pub invariant-loop-counter : goal.invariant-loop-counter
invariant-loop-counter l = l.out.items ≡ l.initial.out.items ++ row_bytes (take l.counter-index l.row)
