-- Addresses stay in order of their numbers, and at most 4,096.
use Rattle.std.proofs.Common.{◌≡◌, ℕ, zero, suc, ◌<◌, ◌≤◌, nat_lt, nat_le, Bool, true, false, List, [], ◌∷◌, length, get_or, is_some, refl, sym, ap, ◌∙◌, subst, inl, inr, arith}
use Rattle.std.specs.List.{filter, insert}
use Rattle.std.specs.Str.{bytes_eq}
use Rattle.std.proofs.lemmas.Bool.{cases_Bool}
use Rattle.std.proofs.lemmas.Bool.Decides.{nat_tests}
use Rattle.std.proofs.lemmas.List.Edits.{length-insert}
use Rattle.byteorder.specs.Endian.{big_number}
use Rattle.ng_base.proofs.NameLemmas.{same_name}
use Rattle.ng_plan.proofs.lookup.AddressLemmas.{lacks_address, any_found}
use Rattle.ng_machine.specs.kinds.Macset.{has_address, most_addresses, put_address}
use Rattle.ng_sorted.specs.Order.{IsGap}
use Rattle.ng_sorted.proofs.InOrder.{find_gap, next_gap, ordered_filter, ordered_insert}
use Rattle.ng_filter_types.specs.Addresses.{AreAddresses, IsFree}

-- ---- finding

has_at : (addresses : List (List ℕ)) (k : ℕ) → k < length addresses → has_address addresses (get_or addresses k []) ≡ true
has_at [] k below = absurd (omega arith)
has_at (b ∷ addresses) zero below = let test : bytes_eq b b ≡ true = same_name b in rw test refl
has_at (b ∷ addresses) (suc k) below = elim (cases_Bool (bytes_eq b (get_or addresses k []))) [
  | inl is ↦ rw is refl
  | inr other ↦ rw other (has_at addresses k (omega arith))
]

-- an address that stands at a place is there
pub has_found : (addresses : List (List ℕ)) (address : List ℕ) (k : ℕ) → k < length addresses → get_or addresses k [] ≡ address → has_address addresses address ≡ true
has_found addresses address k below same = subst (λ (a : List ℕ). has_address addresses a ≡ true) same (has_at addresses k below)

-- and one whose number has a gap is not
pub lacks : (addresses : List (List ℕ)) (address : List ℕ) (k : ℕ) → IsGap (big_number 6) addresses (big_number 6 address) k → has_address addresses address ≡ false
lacks addresses address k gap =
    sym (ap is_some (lacks_address (λ (a : List ℕ). a) addresses address (sym (find_gap (big_number 6) addresses (big_number 6 address) k gap))) ∙ any_found _ addresses)

-- ---- putting

put_gap : (addresses : List (List ℕ)) (k : ℕ) (a : List ℕ) → IsGap (big_number 6) addresses (big_number 6 a) k → put_address a addresses ≡ insert addresses k a
put_gap [] zero a at = refl
put_gap [] (suc k) a at = absurd (omega (arith, at.in_range))
put_gap (b ∷ addresses) zero a at =
    let more : big_number 6 a < big_number 6 b = at.greater 0 b (omega arith) (omega arith) in
    let less : nat_lt (big_number 6 a) (big_number 6 b) ≡ true = grind (arith, nat_tests) in
    rw less refl
put_gap (b ∷ addresses) (suc k) a at =
    let more : big_number 6 b < big_number 6 a = at.lesser 0 b (omega arith) in
    let less : nat_lt (big_number 6 a) (big_number 6 b) ≡ false = grind (arith, nat_tests) in
    rw less (ap (λ rest. b ∷ rest) (put_gap addresses k a (next_gap (big_number 6) b addresses (big_number 6 a) k at)))

-- an address goes to its free place
pub put_free : (addresses : List (List ℕ)) (k : ℕ) (a : List ℕ) → IsFree addresses a k → put_address a addresses ≡ insert addresses k a
put_free addresses k a free = put_gap addresses k a free.gap

roomy : (n : ℕ) → nat_le most_addresses n ≡ false → n < 4096
roomy n e = grind (arith, nat_tests, e)

pub inserted : (addresses : List (List ℕ)) (k : ℕ) (a : List ℕ) → IsFree addresses a k → nat_le most_addresses (length addresses) ≡ false → AreAddresses addresses → AreAddresses (insert addresses k a)
inserted addresses k a free room are = record {
  ordered = ordered_insert (big_number 6) addresses k a are.ordered free.gap;
  few = omega (arith, length-insert addresses k a free.gap.in_range, roomy (length addresses) room);
}

pub few : (addresses : List (List ℕ)) → AreAddresses addresses → length addresses ≤ 4096
few addresses are = are.few

fewer : (test : List ℕ → Bool) (addresses : List (List ℕ)) → length (filter test addresses) ≤ length addresses
fewer test [] = omega arith
fewer test (a ∷ addresses) = elim (cases_Bool (test a)) [ inl is ↦ rw is (omega (arith, fewer test addresses)) | inr other ↦ rw other (omega (arith, fewer test addresses)) ]

pub sifted : (test : List ℕ → Bool) (addresses : List (List ℕ)) → AreAddresses addresses → AreAddresses (filter test addresses)
sifted test addresses are = record {
  ordered = ordered_filter (big_number 6) test addresses are.ordered;
  few = omega (arith, fewer test addresses, are.few);
}
