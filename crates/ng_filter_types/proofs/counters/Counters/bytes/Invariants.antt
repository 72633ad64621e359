use Rattle.std.proofs.Common.{◌≡◌, take}
use Rattle.ng_machine.specs.Counters.{row_bytes}
use Rattle.ng_filter_types.proofs.counters.Counters.bytes.Given as goal

abbrev pub invariant-loop-counter : goal.invariant-loop-counter
invariant-loop-counter l = l.out.items ≡ row_bytes (take l.counter-index l.self)
