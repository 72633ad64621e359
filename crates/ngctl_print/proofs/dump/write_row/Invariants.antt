use Rattle.std.proofs.Common.{◌≡◌, ◌++◌, take, codes}
use Rattle.std.specs.List.{flat_map}
use Rattle.ngctl_print.specs.Dump.{offset_digits, byte_digits}
use Rattle.ngctl_print.proofs.dump.write_row.Given as goal

abbrev pub invariant-loop-byte : goal.invariant-loop-byte
invariant-loop-byte l = l.line.items ≡ offset_digits l.at ++ (codes ":" ++ flat_map byte_digits (take l.byte-index l.bytes))
