use Rattle.std.proofs.Common.{◌≡◌, ◌++◌, replicate}
use Rattle.ngctl_print.proofs.listing.fields.put_left.Given as goal

abbrev pub invariant-loop : goal.invariant-loop
invariant-loop l = l.out.items ≡ l.fn.out.items ++ (l.text ++ replicate l.counter 0x20)
