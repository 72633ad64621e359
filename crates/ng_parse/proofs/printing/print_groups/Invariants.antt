use Rattle.std.proofs.Common.{◌≡◌, ◌++◌, take}
use Rattle.ng_parse.specs.Printing.{print_groups}
use Rattle.ng_parse.proofs.printing.print_groups.Given as goal

abbrev pub invariant-loop-byte : goal.invariant-loop-byte
invariant-loop-byte l = l.out.items ≡ l.fn.out.items ++ print_groups (take l.byte-index l.bytes)
