-- Words and their numbers, a step at a time.
use Rattle.std.proofs.Common.{◌≡◌, ℕ, ◌+◌, ◌*◌, ◌^◌, ◌<◌, ◌≤◌, Bool, true, false, cond, List, [], ◌∷◌, length, get_or, take, drop, min, Option}
use Rattle.std.proofs.Common.{Some, None, option_map, Ok, refl, sym, ap, ◌∙◌, arith, inl, inr}
use Rattle.std.specs.Char.{digit_value}
use Rattle.std.proofs.Math.Nat.{mul-le-mul_right}
use Rattle.std.proofs.lemmas.Bool.{cases_lt, lt-ltb, le-ltb}
use Rattle.std.proofs.lemmas.List.{at_drop_more}
use Rattle.ng_shape.specs.Sound.{is_word_byte}
use Rattle.ng_shape.specs.Values.{Value, Number}
use Rattle.ng_parse.specs.Tokens.{word, after_word, all_digits, groups_in}
use Rattle.ng_parse.specs.Reading.{unsigned_below, number_at, index_at}

front_step : (t : Bool) (b : ℕ) (bs ws : List ℕ) → take (length ws) bs ≡ ws → take (length (cond t (b ∷ ws) [])) (b ∷ bs) ≡ cond t (b ∷ ws) []
front_step true b bs ws h = ap (λ (x : List ℕ). b ∷ x) h
front_step false b bs ws h = refl

pub word_front : (bs : List ℕ) → take (length (word bs)) bs ≡ word bs
word_front [] = refl
word_front (b ∷ bs) = front_step (is_word_byte b) b bs (word bs) (word_front bs)

pub digit_more : (radix : ℕ) (ds : List ℕ) (i : ℕ) → i < length ds → digit_value (get_or ds i 0) < radix → all_digits radix (drop (i + 1) ds) ≡ all_digits radix (drop i ds)
digit_more radix ds i lt fits = let e = lt-ltb (digit_value (get_or ds i 0)) radix fits in sym (at_drop_more (all_digits radix) ds i 0 lt ∙ rw e refl)

pub capped_more : (v r d : ℕ) → 1 ≤ r → min (min v (2 ^ 64) * r + d) (2 ^ 64) ≡ min (v * r + d) (2 ^ 64)
capped_more v r d h =
    elim (cases_lt v (2 ^ 64)) [
      | inl lt ↦ let e : min v (2 ^ 64) ≡ v = omega arith in rw e refl
      | inr le ↦ let e : min v (2 ^ 64) ≡ 2 ^ 64 = omega arith in rw e (omega (arith, mul-le-mul_right r le))
    ]

-- a number below the most is what it was before it was cut at 2^64
pub sized : (most : ℕ) (text : List ℕ) (o : Option ℕ) (n : ℕ) → most ≤ 2 ^ 64 → Some n ≡ option_map (λ m. min m (2 ^ 64)) o → n < most → unsigned_below most text o ≡ Ok (Number (length text) n, after_word text)
sized most text None n le e lt = absurd cc
sized most text (Some m) n le e lt =
    let capped : n ≡ min m (2 ^ 64) = cc in
    let same : n ≡ m = omega arith in
    let fits : m < most = omega arith in
    rw (lt-ltb m most fits, same) refl

-- an index may be cut at 2^64, beyond every array
pub index_capped : (n : ℕ) (given : List (ℕ × Value)) (text : List ℕ) (o : Option ℕ) (m : ℕ) → n ≤ 2 ^ 64 → Some m ≡ option_map (λ i. min i (2 ^ 64)) o → number_at n given text m ≡ index_at n given text o
index_capped n given text None m le e = absurd cc
index_capped n given text (Some i) m le e =
    let capped : m ≡ min i (2 ^ 64) = cc in
    elim (cases_lt i (2 ^ 64)) [
      | inl lt ↦ let same : m ≡ i = omega arith in rw same refl
      | inr high ↦
          let a : n ≤ m = omega arith in
          let b : n ≤ i = omega arith in
          rw (le-ltb m n a, le-ltb i n b) refl
    ]

pub groups_past : (text : List ℕ) → 1 ≤ length text → groups_in 0 text ≡ None
groups_past [] le = absurd (omega arith)
groups_past (c ∷ cs) le = refl
