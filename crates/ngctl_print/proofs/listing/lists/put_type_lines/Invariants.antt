use Rattle.std.proofs.Common.{◌≡◌, ◌++◌}
use Rattle.ngctl_print.specs.listing.Lists.{type_line, lines_of}
use Rattle.ngctl_print.proofs.listing.lists.put_type_lines.Given as goal

abbrev pub invariant-loop-number : goal.invariant-loop-number
invariant-loop-number l = l.out.items ≡ l.fn.out.items ++ lines_of type_line 36 l.number l.kinds
