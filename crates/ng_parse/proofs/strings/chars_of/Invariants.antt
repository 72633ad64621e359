use Rattle.std.proofs.Common.{◌≡◌, ◌-◌, length, []}
use Rattle.ng_parse.specs.Reading.{repeat, string_char}
use Rattle.ng_parse.proofs.strings.chars_of.Given as goal

abbrev pub invariant-loop : goal.invariant-loop
invariant-loop l =
    repeat (string_char l.n l.whole) (length l.text - l.counter) l.chars.items l.rest ≡ repeat (string_char l.n l.whole) (length l.text) [] l.text
