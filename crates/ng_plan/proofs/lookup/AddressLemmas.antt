-- Addresses of one number are the same, and what is found by the number of an address is found by the address.
use Rattle.std.proofs.Common.{◌≡◌, ◌<◌, ◌≤◌, ◌==◌, ◌+◌, ◌*◌, ◌^◌, ℕ, zero, suc, Bool, true, false, List, [], ◌∷◌, length, find, get_or, is_some, Some, None, refl, ap, sym, ◌∙◌, inl, inr, arith, true≢false}
use Rattle.std.specs.List.{list_any}
use Rattle.std.specs.Str.{bytes_eq}
use Rattle.std.proofs.lemmas.Bool.{cases_Bool, eqb-true, eq-eqb}
use Rattle.std.proofs.lemmas.List.{ext_get_or}
use Rattle.byteorder.specs.Endian.{big_from, big_number}
use Rattle.ng_base.proofs.NameLemmas.{is_same, same_name}

-- the higher digit, above one below m
higher : (m x y r s : ℕ) → r < m → s < m → x * m + r ≡ y * m + s → x ≡ y
higher m zero zero r s below less e = refl
higher m zero (suc y) r s below less e = absurd (omega arith)
higher m (suc x) zero r s below less e = absurd (omega arith)
higher m (suc x) (suc y) r s below less e = ap suc (higher m x y r s below less (omega arith))

pub record AreBytes (xs : List ℕ) : Type 0 where
  pub below : (i : ℕ) → get_or xs i 0 < 256

fits : (i n : ℕ) (xs : List ℕ) → AreBytes xs → big_from i n xs < 256 ^ n
fits i zero xs bytes = omega arith
fits i (suc n) xs bytes =
    let rest = fits (suc i) n xs bytes in
    let byte = bytes.below i in
    omega (arith, mul-le (get_or xs i 0) 255 (256 ^ n) (omega arith))
  where
    mul-le : (a b m : ℕ) → a ≤ b → a * m ≤ b * m
    mul-le zero b m h = omega arith
    mul-le (suc a) zero m h = absurd (omega arith)
    mul-le (suc a) (suc b) m h = let rest = mul-le a b m (omega arith) in omega arith

same_from : (i n : ℕ) (xs ys : List ℕ) → AreBytes xs → AreBytes ys → big_from i n xs ≡ big_from i n ys → (k : ℕ) → k < n → get_or xs (i + k) 0 ≡ get_or ys (i + k) 0
same_from i zero xs ys bytes others e k less = absurd (omega arith)
same_from i (suc n) xs ys bytes others e k less =
    let head : get_or xs i 0 ≡ get_or ys i 0 =
    higher (256 ^ n) (get_or xs i 0) (get_or ys i 0) (big_from (suc i) n xs) (big_from (suc i) n ys) (fits (suc i) n xs bytes) (fits (suc i) n ys others) e in
    let rest : big_from (suc i) n xs ≡ big_from (suc i) n ys = let h = ap (λ b. b * 256 ^ n) head in omega arith in
    at k less head (same_from (suc i) n xs ys bytes others rest)
  where
    at : (k : ℕ) → k < suc n → get_or xs i 0 ≡ get_or ys i 0 → ((j : ℕ) → j < n → get_or xs (suc i + j) 0 ≡ get_or ys (suc i + j) 0) → get_or xs (i + k) 0 ≡ get_or ys (i + k) 0
    at zero less head rest = let e : i + 0 ≡ i = omega arith in rw e head
    at (suc j) less head rest = let e : i + suc j ≡ suc i + j = omega arith in rw e (rest j (omega arith))

pub same_address : (xs ys : List ℕ) → length xs ≡ 6 → length ys ≡ 6 → AreBytes xs → AreBytes ys → big_number 6 xs ≡ big_number 6 ys → xs ≡ ys
same_address xs ys six also bytes others e =
    ext_get_or 0 xs ys (six ∙ sym also) (λ i below. let front : 0 + i ≡ i = omega arith in rw front at (same_from 0 6 xs ys bytes others e i (omega arith)))

-- what is found by a number has that number
pub found_number : {X : Type 0} (number : X → ℕ) (xs : List X) (n : ℕ) (x : X) → Some x ≡ find (λ y. number y == n) xs → number x ≡ n
found_number number [] n x found = absurd (cc found)
found_number number (y ∷ xs) n x found = elim (cases_Bool (number y == n)) [
  | inl is ↦ let at : Some x ≡ Some y = rw is at found in let same : x ≡ y = cc in ap number same ∙ eqb-true (number y) n is
  | inr other ↦ found_number number xs n x (rw other at found)
]

-- another number is another address
other_address : (xs ys : List ℕ) → (big_number 6 xs == big_number 6 ys) ≡ false → bytes_eq xs ys ≡ false
other_address xs ys differ = elim (cases_Bool (bytes_eq xs ys)) [
  | inl is ↦ absurd (true≢false (sym (eq-eqb (big_number 6 xs) (big_number 6 ys) (ap (big_number 6) (is_same xs ys is))) ∙ differ))
  | inr apart ↦ apart
]

-- where the entry that is found by the number of an address has the address, it is the first of the address
pub found_address : {X : Type 0} (address_of : X → List ℕ) (xs : List X) (address : List ℕ) (x : X)
    → Some x ≡ find (λ y. big_number 6 (address_of y) == big_number 6 address) xs → address_of x ≡ address → Some x ≡ find (λ y. bytes_eq (address_of y) address) xs
found_address address_of [] address x found own = absurd (cc found)
found_address address_of (y ∷ xs) address x found own = elim (cases_Bool (big_number 6 (address_of y) == big_number 6 address)) [
  | inl is ↦
      let at : Some x ≡ Some y = rw is at found in
      let same : x ≡ y = cc in
      let equal : bytes_eq (address_of y) address ≡ true = ap (λ a. bytes_eq a address) (ap address_of (sym same) ∙ own) ∙ same_name address in
      rw equal at
  | inr other ↦ rw (other_address (address_of y) address other) (found_address address_of xs address x (rw other at found) own)
]

pub lacks_address : {X : Type 0} (address_of : X → List ℕ) (xs : List X) (address : List ℕ)
    → None ≡ find (λ y. big_number 6 (address_of y) == big_number 6 address) xs → None ≡ find (λ y. bytes_eq (address_of y) address) xs
lacks_address address_of [] address found = refl
lacks_address address_of (y ∷ xs) address found = elim (cases_Bool (big_number 6 (address_of y) == big_number 6 address)) [
  | inl is ↦ let at : None ≡ Some y = rw is at found in absurd (cc at)
  | inr other ↦ rw (other_address (address_of y) address other) (lacks_address address_of xs address (rw other at found))
]

pub any_found : {X : Type 0} (test : X → Bool) (xs : List X) → is_some (find test xs) ≡ list_any test xs
any_found test [] = refl
any_found test (x ∷ xs) = elim (cases_Bool (test x)) [
  | inl is ↦ rw is refl
  | inr other ↦ rw other (any_found test xs)
]
