-- Numbers and their digits go together.
use Rattle.std.specs.Prelude.{◌≡◌, ℕ, ◌^◌, ◌<◌, ◌≤◌, List, Some}
use Rattle.std.specs.Fmt.{decimal}
use Rattle.ng_decimal.specs.Decimal.{number_from}

-- the digits of a number in the range say that number
abbrev pub DigitsAreRead : Type 0
DigitsAreRead = (least most n : ℕ) → n < 2 ^ 64 → least ≤ n → n ≤ most → number_from least most (decimal n) ≡ Some n

-- a word that says a number is its digits, and the number is in the range
abbrev pub ReadAreDigits : Type 0
ReadAreDigits = (least most n : ℕ) (word : List ℕ) → most < 2 ^ 64 → number_from least most word ≡ Some n → (word ≡ decimal n) × (least ≤ n) × (n ≤ most)
