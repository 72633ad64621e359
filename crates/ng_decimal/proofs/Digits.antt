-- Digits behind a number make it no less.
use Rattle.std.proofs.Common.{◌≡◌, ℕ, suc, ◌+◌, ◌*◌, ◌<◌, ◌≤◌, List, [], ◌∷◌, length, drop, get_or, None, refl, ap, arith, inl, inr}
use Rattle.std.proofs.Math.Seq.{drop-cons}
use Rattle.std.proofs.lemmas.Bool.{cases_Bool, lt-leb}
use Rattle.std.specs.Char.{digit_value}
use Rattle.std.specs.List.{list_all}
use Rattle.std.specs.Str.Parse.{digits_value, digits_value_after}
use Rattle.ng_decimal.specs.Decimal.{is_digit, digits_up_to}

pub no_less : (number : ℕ) (digits : List ℕ) → number ≤ digits_value_after 10 number digits
no_less number [] = omega arith
no_less number (digit ∷ digits) = let more = no_less (number * 10 + digit_value digit) digits in omega arith

-- with one digit more the number is at least this
pub above : (number i : ℕ) (word : List ℕ) → i < length word → digits_value_after 10 number (drop i word) ≡ digits_value 10 word
    → number * 10 + digit_value (get_or word i 0) ≤ digits_value 10 word
above number i word low so_far =
    let e = ap (digits_value_after 10 number) (drop-cons word i 0 low) in
    let more = no_less (number * 10 + digit_value (get_or word i 0)) (drop (suc i) word) in
    omega (arith, e, more, so_far)

-- digits of a number above the greatest say none
pub too_great : (most : ℕ) (word : List ℕ) → most < digits_value 10 word → digits_up_to most word ≡ None
too_great most word more = elim (cases_Bool (list_all is_digit word)) [
  | inl all ↦ rw (all, lt-leb (digits_value 10 word) most more) refl
  | inr other ↦ rw other refl
]
