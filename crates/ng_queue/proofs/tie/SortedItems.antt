-- Items in order of their numbers.
use Rattle.std.proofs.Common.{◌≡◌, ℕ, ◌+◌, ◌<◌, ◌≤◌, List, [], ◌∷◌, ◌++◌, Bool, true, false, cond, refl, sym, ap, ◌∙◌, subst, inl, inr, arith}
use Rattle.std.specs.Prelude.{filter}
use Rattle.ng_machine.specs.declared.item.Item.{Item}
use Rattle.ng_machine.specs.Words.{Has}
use Rattle.ng_queue.specs.tie.Tie.{IsSorted}

pub sorted_lower : (low high : ℕ) (ps : List Item) → low ≤ high → IsSorted high ps → IsSorted low ps
sorted_lower low high [] le s = tt
sorted_lower low high (p ∷ ps) le s = (let first = s.0 in omega arith, s.1)

pub sorted_least : (low : ℕ) (ps : List Item) (p : Item) → IsSorted low ps → Has p ps → low ≤ p.id.0
sorted_least low [] p s h = absurd h
sorted_least low (q ∷ ps) p s (inl e) = subst (λ (x : Item). low ≤ x.id.0) (sym e) s.0
sorted_least low (q ∷ ps) p s (inr h) = let le = sorted_least (q.id.0 + 1) ps p s.1 h in let first = s.0 in omega arith

pub sorted_one : (low : ℕ) (ps : List Item) (p q : Item) → IsSorted low ps → Has p ps → Has q ps → p.id.0 ≡ q.id.0 → p ≡ q
sorted_one low [] p q s hp hq e = absurd hp
sorted_one low (x ∷ ps) p q s (inl a) (inl b) e = a ∙ sym b
sorted_one low (x ∷ ps) p q s (inl a) (inr b) e = let le = sorted_least (x.id.0 + 1) ps q s.1 b in let same = ap (λ (y : Item). y.id.0) a in absurd (omega arith)
sorted_one low (x ∷ ps) p q s (inr a) (inl b) e = let le = sorted_least (x.id.0 + 1) ps p s.1 a in let same = ap (λ (y : Item). y.id.0) b in absurd (omega arith)
sorted_one low (x ∷ ps) p q s (inr a) (inr b) e = sorted_one (x.id.0 + 1) ps p q s.1 a b e

sorted_cond : (low : ℕ) (p : Item) (ps : List Item) (b : Bool) → low ≤ p.id.0 → IsSorted (p.id.0 + 1) ps → IsSorted low (cond b (p ∷ ps) ps)
sorted_cond low p ps true le s = (le, s)
sorted_cond low p ps false le s = sorted_lower low (p.id.0 + 1) ps (omega arith) s

pub sorted_filter : (test : Item → Bool) (low : ℕ) (ps : List Item) → IsSorted low ps → IsSorted low (filter test ps)
sorted_filter test low [] s = tt
sorted_filter test low (p ∷ ps) s = sorted_cond low p (filter test ps) (test p) s.0 (sorted_filter test (p.id.0 + 1) ps s.1)

pub sorted_push : (low : ℕ) (ps : List Item) (p : Item) → IsSorted low ps → ((q : Item) → Has q ps → q.id.0 < p.id.0) → low ≤ p.id.0 → IsSorted low (ps ++ p ∷ [])
sorted_push low [] p s b le = (le, tt)
sorted_push low (q ∷ ps) p s b le = (s.0, sorted_push (q.id.0 + 1) ps p s.1 (λ x h. b x (inr h)) (let lt = b q (inl refl) in omega arith))
