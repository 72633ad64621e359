use Rattle.std.proofs.Common.{◌≡◌, ◌<◌, length, drop, take, min}
use Rattle.std.specs.Str.Parse.{digits_value}
use Rattle.ng_parse.specs.Tokens.{all_digits}
use Rattle.ngctl_script.proofs.marks.digits_of.Given as goal

abbrev pub invariant-loop-byte : goal.invariant-loop-byte
invariant-loop-byte l = record {
  some : 0 < length l.digits;
  rest : all_digits l.radix (drop l.byte-index l.digits) ≡ all_digits l.radix l.digits;
  front : l.number ≡ min (digits_value l.radix (take l.byte-index l.digits)) 1000001;
}
