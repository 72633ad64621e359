-- Pieces of bytes: numbers, zeros, strings.
use Rattle.std.proofs.Common.{◌≡◌, ◌≤◌, ◌<◌, ◌+◌, ◌*◌, ◌/◌, ◌%◌, ◌^◌, ℕ, zero, suc, false, eqb, List, [], ◌∷◌, ◌++◌, length, take, drop}
use Rattle.std.proofs.Common.{slice_index, refl, sym, ap, ◌∙◌, arith}
use Rattle.std.proofs.Math.Nat.{div-div-eq-div-mul, pow-succ'}
use Rattle.std.proofs.lemmas.Bool.{ne_eqb}
use Rattle.std.specs.Int.{byte_at, bytes_low_first}
use Rattle.byteorder.specs.Endian.{little_from, little_bytes, little_number}
use Rattle.byteorder.specs.Numbers.{little_from-cons}
use Rattle.ng_shape.specs.Layout.{zeros}
use Rattle.ng_shape.specs.Decoding.{before_nul}
use Rattle.ng_shape.specs.Canonical.{AreBytes, AreChars, AreZeros}

byte_shift : (j x : ℕ) → byte_at (suc j) x ≡ byte_at j (x / 256)
byte_shift zero x = refl
byte_shift (suc j) x = ap (λ (p : ℕ). x / p % 256) (pow-succ' 256 (suc j)) ∙ ap (λ (q : ℕ). q % 256) (sym (div-div-eq-div-mul x 256 (256 ^ suc j)))

low_shift : (n j x : ℕ) → bytes_low_first (suc j) n x ≡ bytes_low_first j n (x / 256)
low_shift zero j x = refl
low_shift (suc n) j x = rw (byte_shift j x, low_shift n (suc j) x) refl

-- the bytes of the number that bytes are
pub number_back : (n : ℕ) (xs : List ℕ) → AreBytes xs → n ≤ length xs → little_bytes n (little_number n xs) ≡ take n xs
number_back zero xs bytes le = refl
number_back (suc n) [] bytes le = absurd (omega arith)
number_back (suc n) (b ∷ xs) bytes le =
    let m = little_from 0 n xs in
    let moved : little_from 1 n (b ∷ xs) ≡ m = little_from-cons 0 n b xs in
    let low : b < 256 = bytes.0 in
    let x = b + 256 * m in
    let first : x % 256 ≡ b = omega arith in
    let rest : x / 256 ≡ m = omega arith in
    rw moved (rw (first, low_shift n 0 x, rest) (ap (λ (ys : List ℕ). b ∷ ys) (number_back n xs bytes.1 (omega arith))))

pub bytes_below : (xs : List ℕ) → AreBytes xs → (k : ℕ) → slice_index xs k < 256
bytes_below [] bytes k = omega arith
bytes_below (b ∷ xs) bytes zero = bytes.0
bytes_below (b ∷ xs) bytes (suc k) = bytes_below xs bytes.1 k

pub bytes_join : (xs ys : List ℕ) → AreBytes xs → AreBytes ys → AreBytes (xs ++ ys)
bytes_join [] ys a b = b
bytes_join (x ∷ xs) ys a b = (a.0, bytes_join xs ys a.1 b)

pub bytes_after : (xs ys : List ℕ) → AreBytes (xs ++ ys) → AreBytes ys
bytes_after [] ys a = a
bytes_after (x ∷ xs) ys a = bytes_after xs ys a.1

pub bytes_take : (n : ℕ) (xs : List ℕ) → AreBytes xs → AreBytes (take n xs)
bytes_take zero [] a = tt
bytes_take zero (x ∷ xs) a = tt
bytes_take (suc n) [] a = tt
bytes_take (suc n) (x ∷ xs) a = (a.0, bytes_take n xs a.1)

pub bytes_drop : (n : ℕ) (xs : List ℕ) → AreBytes xs → AreBytes (drop n xs)
bytes_drop zero xs a = a
bytes_drop (suc n) [] a = tt
bytes_drop (suc n) (x ∷ xs) a = bytes_drop n xs a.1

pub bytes_zeros : (n : ℕ) → AreBytes (zeros n)
bytes_zeros zero = tt
bytes_zeros (suc n) = (omega arith, bytes_zeros n)

pub bytes_number : (n i x : ℕ) → AreBytes (bytes_low_first i n x)
bytes_number zero i x = tt
bytes_number (suc n) zero x = (omega arith, bytes_number n 1 x)
bytes_number (suc n) (suc i) x = (omega arith, bytes_number n (suc (suc i)) x)

pub bytes_chars : (cs : List ℕ) → AreChars cs → AreBytes cs
bytes_chars [] a = tt
bytes_chars (c ∷ cs) a = (a.1, bytes_chars cs a.2)

-- a string ends where zeros begin
pub before_zeros : (cs rest : List ℕ) → AreChars cs → before_nul (cs ++ 0 ∷ rest) ≡ cs
before_zeros [] rest a = refl
before_zeros (c ∷ cs) rest a =
    let some : eqb c 0 ≡ false = ne_eqb c 0 (λ e. omega (arith, a.0)) in
    rw some (ap (λ (x : List ℕ). c ∷ x) (before_zeros cs rest a.2))

-- what stands before the first NUL has none
pub before_chars : (xs : List ℕ) → AreBytes xs → AreChars (before_nul xs)
before_chars [] a = tt
before_chars (zero ∷ xs) a = tt
before_chars (suc x ∷ xs) a =
    let some : eqb (suc x) 0 ≡ false = ne_eqb (suc x) 0 (λ e. omega (arith, e)) in
    let chars : AreChars (suc x ∷ before_nul xs) = (omega arith, a.0, before_chars xs a.1) in
    rw some chars

pub before_front : (xs : List ℕ) → before_nul xs ++ drop (length (before_nul xs)) xs ≡ xs
before_front [] = refl
before_front (zero ∷ xs) = refl
before_front (suc x ∷ xs) =
    let some : eqb (suc x) 0 ≡ false = ne_eqb (suc x) 0 (λ e. omega (arith, e)) in
    rw some (ap (λ (ys : List ℕ). suc x ∷ ys) (before_front xs))

pub zeros_length : (n : ℕ) → length (zeros n) ≡ n
zeros_length zero = refl
zeros_length (suc n) = omega (arith, zeros_length n)

pub zeros_are : (n : ℕ) → AreZeros (zeros n)
zeros_are n = ap zeros (sym (zeros_length n))
