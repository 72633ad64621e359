-- Members that stand in order.
use Rattle.std.proofs.Common.{◌≡◌, ◌≤◌, ◌<◌, ◌+◌, ℕ, true, false, eqb, List, [], ◌∷◌, length, get_or, nat_le, refl, sym, ap, ◌∙◌, arith}
use Rattle.std.proofs.lemmas.Bool.{and_parts, and_from, le-leb, leb-true, ne_eqb, eqb-false}
use Rattle.ng_shape.specs.declared.tree.Member.{Member}
use Rattle.ng_shape.specs.Values.{Value, Absent, find, are_ascending, member_of, members_of}

-- no member is below the first
pub find_below : (low i : ℕ) (ms : List (ℕ × Value)) → are_ascending low ms ≡ true → i < low → find i ms ≡ Absent
find_below low i [] up lt = refl
find_below low i (m ∷ ms) up lt =
    let both = and_parts (nat_le low m.0) (are_ascending (m.0 + 1) ms) up in
    let le : low ≤ m.0 = leb-true low m.0 both.0 in
    let other : eqb m.0 i ≡ false = ne_eqb m.0 i (λ e. omega arith) in
    rw other (find_below (m.0 + 1) i ms both.1 (omega arith))

-- the first member is another
pub find_other : (i : ℕ) (m : ℕ × Value) (ms : List (ℕ × Value)) → are_ascending i (m ∷ ms) ≡ true → eqb m.0 i ≡ false → find i (m ∷ ms) ≡ Absent
find_other i m ms up ne =
    let both = and_parts (nat_le i m.0) (are_ascending (m.0 + 1) ms) up in
    let le : i ≤ m.0 = leb-true i m.0 both.0 in
    rw ne (find_below (m.0 + 1) i ms both.1 (omega arith))

-- the first member is passed, or not there yet
pub ascends_on : (i : ℕ) (m : ℕ × Value) (ms : List (ℕ × Value)) → are_ascending i (m ∷ ms) ≡ true → eqb m.0 i ≡ false → are_ascending (i + 1) (m ∷ ms) ≡ true
ascends_on i m ms up ne =
    let both = and_parts (nat_le i m.0) (are_ascending (m.0 + 1) ms) up in
    let le : i ≤ m.0 = leb-true i m.0 both.0 in
    let ne' : m.0 ≡ i → ⊥ = eqb-false m.0 i ne in
    and_from (nat_le (i + 1) m.0) (are_ascending (m.0 + 1) ms) (le-leb (i + 1) m.0 (omega arith)) both.1

-- the first member, which is not that one
pub first_other : (ms : List Member) (i : ℕ) (m : Member) → m ≡ get_or ms 0 m → 1 ≤ length ms → are_ascending i (members_of ms) ≡ true → (m.number ≡ i → ⊥) → Absent ≡ find i (members_of ms)
first_other [] i m e le up ne = refl
first_other (k ∷ ms) i m e le up ne = sym (find_other i (member_of k) (members_of ms) up (ne_eqb k.number i (λ h. ne (ap (λ (x : Member). x.number) e ∙ h))))
