use Rattle.std.proofs.Common.{◌≡◌, ◌≤◌, drop}
use Rattle.std.specs.List.{list_all}
use Rattle.std.specs.Str.Parse.{digits_value, digits_value_after}
use Rattle.ng_decimal.specs.Decimal.{is_digit}
use Rattle.ng_decimal.proofs.decimal.value_up_to.Given as goal

abbrev pub invariant-loop-byte : goal.invariant-loop-byte
invariant-loop-byte l = record {
  so_far : digits_value_after 10 l.number (drop l.byte-index l.word) ≡ digits_value 10 l.word;
  digits : list_all is_digit (drop l.byte-index l.word) ≡ list_all is_digit l.word;
  low : l.number ≤ l.most;
}
