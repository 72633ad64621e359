use Rattle.std.proofs.Common.{◌≡◌, ◌++◌, take}
use Rattle.std.specs.List.{flat_map}
use Rattle.ng_call.specs.Line.{shown_byte}
use Rattle.ng_call.proofs.line.named.Given as goal

abbrev pub invariant-loop-byte : goal.invariant-loop-byte
invariant-loop-byte l = l.said.items ≡ l.text ++ flat_map shown_byte (take l.byte-index l.name)
