-- Names compare as their texts with the zeros behind them, and texts as the numbers of their words of eight bytes.
use Rattle.std.proofs.Common.{◌≡◌, ◌<◌, ◌≤◌, ◌==◌, ◌&&◌, ◌+◌, ◌-◌, ◌*◌, ◌^◌, ℕ, zero, suc, Bool, true, List, [], ◌∷◌, ◌++◌, length, take, drop, replicate, get_or, refl, ap, ap₂, sym, ◌∙◌, inl, inr, arith, length-take, Ordering, Less, Equal, Greater, nat_cmp, is_eq}
use Rattle.std.specs.Cmp.{unsigned_ties}
use Rattle.std.specs.Cmp.Lexicographic.{slice_cmp, pointwise, texts_ties}
use Rattle.std.specs.List.{AllByRecursion}
use Rattle.std.specs.Ordering.{ordering_then}
use Rattle.std.proofs.Math.Nat.{mul-le-mul_right}
use Rattle.std.proofs.lemmas.Bool.{cases_lt}
use Rattle.std.proofs.lemmas.Bool.Decides.{nat_tests}
use Rattle.std.proofs.lemmas.Cmp.{by_ranked, ranked}
use Rattle.std.proofs.lemmas.List.{drop-drop, get_or_past, get_or-drop, get_or-take, length-drop, length-take-le, take_all}
use Rattle.byteorder.specs.Endian.{big_number}
use Rattle.byteorder.specs.Numbers.{big_from-cons, big_from-lt, big_from-take}
use Rattle.ng_base.specs.Name.{is_name_byte, IsName}
use Rattle.ng_base.specs.TextWord.{text_word}
use Rattle.ng_base.specs.Padded.{IsPadded}
use Rattle.ng_base.proofs.NameLemmas.{each_name_byte, length-name}

-- ---- what two numbers answer

nat_cmp-less : (x y : ℕ) → x < y → nat_cmp x y ≡ Less
nat_cmp-less x y less = grind (arith, nat_tests)

nat_cmp-greater : (x y : ℕ) → y < x → nat_cmp x y ≡ Greater
nat_cmp-greater x y more = grind (arith, nat_tests)

-- ---- one answer after another

then_assoc : (p q r : Ordering) → ordering_then (ordering_then p q) r ≡ ordering_then p (ordering_then q r)
then_assoc Less q r = refl
then_assoc Equal q r = refl
then_assoc Greater q r = refl

-- ---- a number compares as its bytes

-- a digit decides above what is below its place, and the rest decides where the digits are equal
digit_order : (m x y r s : ℕ) → r < m → s < m → nat_cmp (x * m + r) (y * m + s) ≡ ordering_then (nat_cmp x y) (nat_cmp r s)
digit_order m x y r s below also = by_ranked (x < y) (x ≡ y) (y < x) (nat_cmp x y) (ranked x y (nat_cmp x y) refl)
    (λ e less.
    let top : (x + 1) * m ≤ y * m = mul-le-mul_right m (omega arith) in
    let first : x * m + r < y * m + s = omega arith in
    rw e (nat_cmp-less (x * m + r) (y * m + s) first))
    (λ e same.
    let tops : x * m ≡ y * m = ap (λ (d : ℕ). d * m) same in
    rw (e, tops) (after (y * m)))
    (λ e more.
    let top : (y + 1) * m ≤ x * m = mul-le-mul_right m (omega arith) in
    let last : y * m + s < x * m + r = omega arith in
    rw e (nat_cmp-greater (x * m + r) (y * m + s) last))
  where
    after : (t : ℕ) → nat_cmp (t + r) (t + s) ≡ nat_cmp r s
    after t = grind (arith, nat_tests)

-- each item is a byte
abbrev AreBytes : List ℕ → Type 0
AreBytes xs = (k : ℕ) → get_or xs k 0 < 256

-- numbers of n bytes compare as the bytes do
bytes_order : (n : ℕ) (xs ys : List ℕ) → length xs ≡ n → length ys ≡ n → AreBytes xs → AreBytes ys
    → nat_cmp (big_number n xs) (big_number n ys) ≡ slice_cmp nat_cmp xs ys
bytes_order zero [] [] long also bytes others = refl
bytes_order zero [] (y ∷ ys) long also bytes others = absurd (omega arith)
bytes_order zero (x ∷ xs) ys long also bytes others = absurd (omega arith)
bytes_order (suc n) [] ys long also bytes others = absurd (omega arith)
bytes_order (suc n) (x ∷ xs) [] long also bytes others = absurd (omega arith)
bytes_order (suc n) (x ∷ xs) (y ∷ ys) long also bytes others =
    let rest = bytes_order n xs ys (omega arith) (omega arith) (λ k. bytes (suc k)) (λ k. others (suc k)) in
    let low = big_from-lt 0 n xs (λ k. bytes (suc k)) in
    let other_low = big_from-lt 0 n ys (λ k. others (suc k)) in
    rw (big_from-cons 0 n x xs, big_from-cons 0 n y ys)
    (digit_order (256 ^ n) x y (big_number n xs) (big_number n ys) low other_low ∙ ap (ordering_then (nat_cmp x y)) rest)

-- ---- lists compare part by part

-- the first n places decide, and then the rest
split_order : (n : ℕ) (xs ys : List ℕ) → n ≤ length xs → n ≤ length ys
    → slice_cmp nat_cmp xs ys ≡ ordering_then (slice_cmp nat_cmp (take n xs) (take n ys)) (slice_cmp nat_cmp (drop n xs) (drop n ys))
split_order zero xs ys long also = refl
split_order (suc n) [] ys long also = absurd (omega arith)
split_order (suc n) (x ∷ xs) [] long also = absurd (omega arith)
split_order (suc n) (x ∷ xs) (y ∷ ys) long also =
    ap (ordering_then (nat_cmp x y)) (split_order n xs ys (omega arith) (omega arith))
    ∙ sym (then_assoc (nat_cmp x y) (slice_cmp nat_cmp (take n xs) (take n ys)) (slice_cmp nat_cmp (drop n xs) (drop n ys)))

-- the same with the place n in both parts
shared_order : (n : ℕ) (xs ys : List ℕ) → n < length xs → n < length ys
    → slice_cmp nat_cmp xs ys ≡ ordering_then (slice_cmp nat_cmp (take (suc n) xs) (take (suc n) ys)) (slice_cmp nat_cmp (drop n xs) (drop n ys))
shared_order n [] ys long also = absurd (omega arith)
shared_order n (x ∷ xs) [] long also = absurd (omega arith)
shared_order zero (x ∷ xs) (y ∷ ys) long also = twice (nat_cmp x y) (slice_cmp nat_cmp xs ys)
  where
    twice : (p q : Ordering) → ordering_then p q ≡ ordering_then (ordering_then p Equal) (ordering_then p q)
    twice Less q = refl
    twice Equal q = refl
    twice Greater q = refl
shared_order (suc n) (x ∷ xs) (y ∷ ys) long also =
    ap (ordering_then (nat_cmp x y)) (shared_order n xs ys (omega arith) (omega arith))
    ∙ sym (then_assoc (nat_cmp x y) (slice_cmp nat_cmp (take (suc n) xs) (take (suc n) ys)) (slice_cmp nat_cmp (drop n xs) (drop n ys)))

-- ---- texts compare word by word

-- how the words at a place compare
abbrev word_cmp : ℕ → List ℕ → List ℕ → Ordering
word_cmp at xs ys = nat_cmp (text_word at xs) (text_word at ys)

front_fits : (xs : List ℕ) → AreBytes xs → AreBytes (take 8 xs)
front_fits xs bytes k = elim (cases_lt k 8) [
  | inl within ↦ rw (get_or-take 8 xs k 0 within) (bytes k)
  | inr past ↦ rw (get_or_past (take 8 xs) k 0 (omega (arith, length-take 8 xs))) (omega arith)
]

rest_fits : (at : ℕ) (xs : List ℕ) → AreBytes xs → AreBytes (drop at xs)
rest_fits at xs bytes k = rw (get_or-drop at xs k 0) (bytes (at + k))

-- the eight bytes at a place compare as their word does
word_order : (at : ℕ) (xs ys : List ℕ) → at + 8 ≤ length xs → at + 8 ≤ length ys → AreBytes xs → AreBytes ys
    → slice_cmp nat_cmp (take 8 (drop at xs)) (take 8 (drop at ys)) ≡ word_cmp at xs ys
word_order at xs ys long also bytes others =
    sym (bytes_order 8 (take 8 (drop at xs)) (take 8 (drop at ys)) (eight xs long) (eight ys also)
    (front_fits (drop at xs) (rest_fits at xs bytes)) (front_fits (drop at ys) (rest_fits at ys others)))
    ∙ ap₂ nat_cmp (big_from-take 0 8 8 (drop at xs) (omega arith)) (big_from-take 0 8 8 (drop at ys) (omega arith))
  where
    eight : (xs : List ℕ) → at + 8 ≤ length xs → length (take 8 (drop at xs)) ≡ 8
    eight xs long = length-take-le 8 (drop at xs) (omega (arith, length-drop at xs))

-- the word at a place decides, and then what is behind it
word_first : (at : ℕ) (xs ys : List ℕ) → at + 8 ≤ length xs → at + 8 ≤ length ys → AreBytes xs → AreBytes ys
    → slice_cmp nat_cmp (drop at xs) (drop at ys) ≡ ordering_then (word_cmp at xs ys) (slice_cmp nat_cmp (drop (at + 8) xs) (drop (at + 8) ys))
word_first at xs ys long also bytes others =
    split_order 8 (drop at xs) (drop at ys) (omega (arith, length-drop at xs)) (omega (arith, length-drop at ys))
    ∙ ap₂ ordering_then (word_order at xs ys long also bytes others) (ap₂ (slice_cmp nat_cmp) (drop-drop 8 at xs) (drop-drop 8 at ys))

-- the last byte of the word is the first of the rest
shared_word_first : (at : ℕ) (xs ys : List ℕ) → at + 8 ≤ length xs → at + 8 ≤ length ys → AreBytes xs → AreBytes ys
    → slice_cmp nat_cmp (drop at xs) (drop at ys) ≡ ordering_then (word_cmp at xs ys) (slice_cmp nat_cmp (drop (at + 7) xs) (drop (at + 7) ys))
shared_word_first at xs ys long also bytes others =
    shared_order 7 (drop at xs) (drop at ys) (omega (arith, length-drop at xs)) (omega (arith, length-drop at ys))
    ∙ ap₂ ordering_then (word_order at xs ys long also bytes others) (ap₂ (slice_cmp nat_cmp) (drop-drop 7 at xs) (drop-drop 7 at ys))

-- at the last eight bytes the word alone decides
word_last : (at : ℕ) (xs ys : List ℕ) → length xs ≡ at + 8 → length ys ≡ at + 8 → AreBytes xs → AreBytes ys
    → slice_cmp nat_cmp (drop at xs) (drop at ys) ≡ word_cmp at xs ys
word_last at xs ys long also bytes others =
    ap₂ (slice_cmp nat_cmp) (sym (take_all 8 (drop at xs) (omega (arith, length-drop at xs)))) (sym (take_all 8 (drop at ys) (omega (arith, length-drop at ys))))
    ∙ word_order at xs ys (omega arith) (omega arith) bytes others

-- four words of 31 bytes, of which the last two share a byte
pub text_order : (xs ys : List ℕ) → length xs ≡ 31 → length ys ≡ 31 → AreBytes xs → AreBytes ys
    → ordering_then (ordering_then (ordering_then (word_cmp 0 xs ys) (word_cmp 8 xs ys)) (word_cmp 16 xs ys)) (word_cmp 23 xs ys) ≡ slice_cmp nat_cmp xs ys
text_order xs ys long also bytes others =
    let first = word_first 0 xs ys (omega arith) (omega arith) bytes others in
    let second = word_first 8 xs ys (omega arith) (omega arith) bytes others in
    let third = shared_word_first 16 xs ys (omega arith) (omega arith) bytes others in
    let fourth = word_last 23 xs ys long also bytes others in
    let last = then_assoc (ordering_then (word_cmp 0 xs ys) (word_cmp 8 xs ys)) (word_cmp 16 xs ys) (word_cmp 23 xs ys) in
    let front = then_assoc (word_cmp 0 xs ys) (word_cmp 8 xs ys) (ordering_then (word_cmp 16 xs ys) (word_cmp 23 xs ys)) in
    rw (first, second, third, fourth, last, front) refl

-- whether the words at a place are the same
abbrev word_same : ℕ → List ℕ → List ℕ → Bool
word_same at xs ys = text_word at xs == text_word at ys

is_eq-then : (p q : Ordering) → is_eq (ordering_then p q) ≡ (is_eq p && is_eq q)
is_eq-then Less q = refl
is_eq-then Equal q = refl
is_eq-then Greater q = refl

-- two texts are the same where the same four words are
pub text_same : (xs ys : List ℕ) → length xs ≡ 31 → length ys ≡ 31 → AreBytes xs → AreBytes ys
    → (((word_same 0 xs ys && word_same 8 xs ys) && word_same 16 xs ys) && word_same 23 xs ys) ≡ pointwise ◌==◌ xs ys
text_same xs ys long also bytes others =
    ap₂ ◌&&◌ (ap₂ ◌&&◌ (ap₂ ◌&&◌ (tie 0) (tie 8) ∙ sym (is_eq-then (word_cmp 0 xs ys) (word_cmp 8 xs ys))) (tie 16)
    ∙ sym (is_eq-then (ordering_then (word_cmp 0 xs ys) (word_cmp 8 xs ys)) (word_cmp 16 xs ys))) (tie 23)
    ∙ sym (is_eq-then (ordering_then (ordering_then (word_cmp 0 xs ys) (word_cmp 8 xs ys)) (word_cmp 16 xs ys)) (word_cmp 23 xs ys))
    ∙ ap is_eq (text_order xs ys long also bytes others)
    ∙ sym (texts_ties xs ys)
  where
    tie : (at : ℕ) → word_same at xs ys ≡ is_eq (word_cmp at xs ys)
    tie at = unsigned_ties (text_word at xs) (text_word at ys)

-- ---- names compare as their texts

zeros_equal : (n : ℕ) → slice_cmp nat_cmp (replicate n 0) (replicate n 0) ≡ Equal
zeros_equal zero = refl
zeros_equal (suc n) = zeros_equal n

-- two lists with no zero compare the same with zeros behind both up to one length
padded_order : (xs ys : List ℕ) (j k : ℕ) → AllByRecursion (λ b. 0 < b) xs → AllByRecursion (λ b. 0 < b) ys → length xs + j ≡ length ys + k
    → slice_cmp nat_cmp xs ys ≡ slice_cmp nat_cmp (xs ++ replicate j 0) (ys ++ replicate k 0)
padded_order [] [] j k some others long = let same : j ≡ k = omega arith in rw same (sym (zeros_equal k))
padded_order [] (y ∷ ys) zero k some others long = absurd (omega arith)
padded_order [] (y ∷ ys) (suc j) k some others long =
    let less : nat_cmp 0 y ≡ Less = nat_cmp-less 0 y others.0 in rw less refl
padded_order (x ∷ xs) [] j zero some others long = absurd (omega arith)
padded_order (x ∷ xs) [] j (suc k) some others long =
    let more : nat_cmp x 0 ≡ Greater = nat_cmp-greater x 0 some.0 in rw more refl
padded_order (x ∷ xs) (y ∷ ys) j k some others long =
    ap (ordering_then (nat_cmp x y)) (padded_order xs ys j k some.1 others.1 (omega arith))

no_zeros : (name : List ℕ) → IsName name → AllByRecursion (λ b. 0 < b) name
no_zeros name named = each_name_byte (λ b. 0 < b) (λ b is. above b is) name named
  where
    above : (b : ℕ) → is_name_byte b ≡ true → 0 < b
    above b is = grind (arith, nat_tests)

-- names compare as the texts in which they lie
pub names_order : (len : ℕ) (text : List ℕ) (other_len : ℕ) (other : List ℕ) → IsPadded len text → IsPadded other_len other
    → slice_cmp nat_cmp (take len text) (take other_len other) ≡ slice_cmp nat_cmp text other
names_order len text other_len other padding other_padding =
    let name : List ℕ = take len text in
    let other_name : List ℕ = take other_len other in
    let short : length name ≤ 31 = length-name name padding.named in
    let also_short : length other_name ≤ 31 = length-name other_name other_padding.named in
    let zeros : ℕ = 31 - length name in
    let other_zeros : ℕ = 31 - length other_name in
    padded_order name other_name zeros other_zeros (no_zeros name padding.named) (no_zeros other_name other_padding.named) (omega arith)
    ∙ ap₂ (slice_cmp nat_cmp) padding.zeros other_padding.zeros

-- ---- two are the same where they compare as equal

pub names_same : (len : ℕ) (text : List ℕ) (other_len : ℕ) (other : List ℕ) → IsPadded len text → IsPadded other_len other
    → pointwise ◌==◌ (take len text) (take other_len other) ≡ pointwise ◌==◌ text other
names_same len text other_len other padding other_padding =
    texts_ties (take len text) (take other_len other)
    ∙ ap is_eq (names_order len text other_len other padding other_padding)
    ∙ sym (texts_ties text other)
