use Rattle.std.proofs.Common.{◌≡◌, ◌++◌}
use Rattle.ng_shape.specs.Layout.{zeros}
use Rattle.ng_shape.proofs.layout.put_zeros.Given as goal

abbrev pub invariant-loop : goal.invariant-loop
invariant-loop l = l.out.items ≡ l.fn.out.items ++ zeros l.counter
