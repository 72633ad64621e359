-- The digits so far, and the number that they write.
use Rattle.std.proofs.Common.{◌≡◌, take}
use Rattle.std.specs.Str.Parse.{AllDigits, digits_value}
use Rattle.ng_path.proofs.reading.read_hex.Given as goal

abbrev pub invariant-loop-byte : goal.invariant-loop-byte
invariant-loop-byte l = AllDigits 16 (take l.byte-index l.digits) × (l.number ≡ digits_value 16 (take l.byte-index l.digits))
