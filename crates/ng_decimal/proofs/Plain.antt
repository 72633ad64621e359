-- The digits of a number, and words of digits.
use Rattle.std.proofs.Common.{◌≡◌, ℕ, ◌+◌, ◌/◌, ◌%◌, ◌^◌, ◌<◌, ◌≤◌, true, false, not, ◌||◌, ◌==◌, nat_le, List, [], ◌∷◌, ◌++◌, length, get_or, Some, None, refl, sym, ap, ◌∙◌, arith, inl, inr, true≢false, length-append}
use Rattle.std.specs.Fmt.{decimal}
use Rattle.std.specs.List.{list_all}
use Rattle.std.specs.Str.Parse.{digits_value}
use Rattle.std.proofs.lemmas.Bool.{cases_Bool}
use Rattle.std.proofs.lemmas.Bool.Decides.{nat_tests}
use Rattle.std.proofs.lemmas.Fmt.{decimal_by_steps, decimal_is_IsNumeral, decimal-digits_value}
use Rattle.std.proofs.lemmas.List.Folds.{list_all-append}
use Rattle.std.proofs.lemmas.Str.Parse.{IsDigitsTest, numerals_by_value}
use Rattle.std.specs.Int.{IsInRange}
use Rattle.ng_decimal.specs.Decimal.{is_digit, begins_with_zero, is_number}
use Rattle.ng_decimal.specs.Laws.{DigitsAreRead, ReadAreDigits}

-- the digits of a number
record IsPlain (n : ℕ) (word : List ℕ) : Type 0 where
  some : 1 ≤ length word
  digits : list_all is_digit word ≡ true
  front : 1 ≤ n → begins_with_zero word ≡ false
  short : n ≡ 0 → length word ≡ 1

one_digit : (n : ℕ) → n < 10 → is_digit (48 + n) ≡ true
one_digit n low = grind (arith, nat_tests)

one : (n : ℕ) → n < 10 → IsPlain n ((48 + n) ∷ [])
one n low = record {
  some = omega arith;
  digits = rw (one_digit n low) refl;
  front = λ more. grind (arith, nat_tests);
  short = λ zero. refl;
}

same_front : (word : List ℕ) (b : ℕ) → 1 ≤ length word → begins_with_zero (word ++ b ∷ []) ≡ begins_with_zero word
same_front [] b some = absurd (omega arith)
same_front (d ∷ word) b some = refl

more : (n : ℕ) (word : List ℕ) → 10 ≤ n → IsPlain (n / 10) word → IsPlain n (word ++ ((48 + n % 10) ∷ []))
more n word big plain = record {
  some = (let e = length-append word ((48 + n % 10) ∷ []) in let s = plain.some in omega arith);
  digits = list_all-append is_digit word ((48 + n % 10) ∷ []) ∙ rw (plain.digits, one_digit (n % 10) (omega arith)) refl;
  front = λ some. same_front word (48 + n % 10) plain.some ∙ plain.front (omega arith);
  short = λ zero. absurd (omega arith);
}

plain_digits : (n : ℕ) → n < 2 ^ 64 → IsPlain n (decimal n)
plain_digits n low = decimal_by_steps IsPlain one more n low

numbers_pass : (n : ℕ) → n < 2 ^ 64 → is_number (decimal n) ≡ true
numbers_pass n low =
    let plain = plain_digits n low in
    let some : nat_le 1 (length (decimal n)) ≡ true = (let s = plain.some in grind (arith, nat_tests)) in
    elim (cases_Bool (n == 0)) [
      | inl zero ↦ let short : (length (decimal n) == 1) ≡ true = (let e = plain.short (grind (arith, nat_tests)) in grind (arith, nat_tests)) in rw (some, plain.digits, short) (grind arith)
      | inr other ↦ let front = plain.front (grind (arith, nat_tests)) in rw (some, plain.digits, front) refl
    ]

pub digits_are_read : DigitsAreRead
digits_are_read least most n low above below =
    let value = (decimal_is_IsNumeral n low).1 in
    let at_least : nat_le least n ≡ true = grind (arith, nat_tests) in
    let at_most : nat_le n most ≡ true = grind (arith, nat_tests) in
    rw (numbers_pass n low, value, at_least, at_most) refl

-- ---- a word that says a number

tells_range : (c : ℕ) → is_digit c ≡ true → IsInRange 48 57 c
tells_range c is = grind (arith, nat_tests)

digit_test : IsDigitsTest (λ word. list_all is_digit word ≡ true)
digit_test = record {
  empty = refl;
  parts = λ c cs all. elim (cases_Bool (is_digit c)) [
    | inl is ↦ (tells_range c is, rw is at all)
    | inr other ↦ let wrong : false ≡ true = rw other at all in absurd (true≢false (sym wrong))
  ];
  more = λ c cs range all. let is : is_digit c ≡ true = grind (arith, nat_tests) in rw (is, all) refl;
}

lone_zero : (word : List ℕ) → (not (begins_with_zero word) || length word == 1) ≡ true → get_or word 0 0 ≡ 48 → length word ≡ 1
lone_zero [] plain zero = grind (arith, nat_tests)
lone_zero (b ∷ word) plain zero = let e : b ≡ 48 = zero in grind (arith, nat_tests)

word_is : (word : List ℕ) (n : ℕ) → is_number word ≡ true → digits_value 10 word ≡ n → n < 2 ^ 64 → word ≡ decimal n
word_is word n passes value low = elim (cases_Bool (nat_le 1 (length word))) [
  | inr other ↦ let wrong : false ≡ true = rw other at passes in absurd (true≢false (sym wrong))
  | inl some ↦ elim (cases_Bool (list_all is_digit word)) [
    | inr other ↦ let wrong : false ≡ true = rw (some, other) at passes in absurd (true≢false (sym wrong))
    | inl digits ↦
        let plain : (not (begins_with_zero word) || length word == 1) ≡ true = rw (some, digits) at passes in
        let below : digits_value 10 word < 2 ^ 64 = rw value low in
        let known = decimal-digits_value (numerals_by_value (λ ds. list_all is_digit ds ≡ true) digit_test) word digits (grind (arith, nat_tests)) (lone_zero word plain) below in
        sym known ∙ ap decimal value
  ]
]

pub read_are_digits : ReadAreDigits
read_are_digits least most n word low read = elim (cases_Bool (is_number word)) [
  | inr other ↦ let none : None ≡ Some n = rw other at read in absurd (cc none)
  | inl passes ↦ elim (cases_Bool (nat_le least (digits_value 10 word))) [
    | inr other ↦ let none : None ≡ Some n = rw (passes, other) at read in absurd (cc none)
    | inl above ↦ elim (cases_Bool (nat_le (digits_value 10 word) most)) [
      | inr other ↦ let none : None ≡ Some n = rw (passes, above, other) at read in absurd (cc none)
      | inl below ↦
          let found : Some (digits_value 10 word) ≡ Some n = rw (passes, above, below) at read in
          let value : digits_value 10 word ≡ n = cc found in
          let at_least : least ≤ digits_value 10 word = grind (arith, nat_tests) in
          let at_most : digits_value 10 word ≤ most = grind (arith, nat_tests) in
          (word_is word n passes value (omega arith), omega arith, omega arith)
    ]
  ]
]
