-- Hexadecimal digits, one after another.
use Rattle.std.proofs.Common.{ℕ, ◌^◌, ◌<◌, ◌≤◌, zero, suc, List, [], ◌∷◌, length, take, get_or, length-take, lit<, arith}
use native.Mathlib.Nat.{pow-le-pow_right}
use Rattle.std.specs.Char.{digit_value}
use Rattle.std.specs.Str.Parse.{AllDigits, digits_value}
use Rattle.std.proofs.lemmas.Int.Digits.{digits_value-lt}

-- fewer than eight digits leave room for one more
pub room : (digits : List ℕ) (n : ℕ) → n < length digits → length digits ≤ 8 → AllDigits 16 (take n digits) → digits_value 16 (take n digits) < 2 ^ 28
room digits n within few h =
    let size : length (take n digits) ≤ 7 = rw length-take (omega arith) in
    let below = digits_value-lt 16 (take n digits) h in
    let most : 16 ^ length (take n digits) ≤ 16 ^ 7 = pow-le-pow_right (lit< tt) size in
    omega arith

pub digit_at : (digits : List ℕ) (n : ℕ) → AllDigits 16 digits → n < length digits → digit_value (get_or digits n 0) < 16
digit_at [] n h within = absurd (omega arith)
digit_at (c ∷ digits) zero h within = h.0
digit_at (c ∷ digits) (suc n) h within = digit_at digits n h.1 (omega arith)
