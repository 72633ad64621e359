-- So many more as there were turns.
use Rattle.std.proofs.Common.{◌≡◌, ◌++◌, map, replicate}
use Rattle.ng_machine.specs.State.{blank_of}
use Rattle.ng_stock.specs.Any.{any_state}
use Rattle.ng_stock.proofs.blanks.add.Given as goal

abbrev pub invariant-loop : goal.invariant-loop
invariant-loop l = map any_state l.nodes.items ≡ map any_state l.initial.nodes.items ++ replicate l.counter (blank_of l.kind)
