-- A count of the items that are left.
use Rattle.std.proofs.Common.{◌≡◌, ℕ, ◌+◌, ◌<◌, List, [], ◌∷◌, Bool, true, false, not, cond, inl, inr, sym, ap, ◌∙◌, refl, arith, length}
use Rattle.std.proofs.lemmas.Bool.{eq-eqb, ne_eqb}
use Rattle.std.specs.Prelude.{◌==◌}
use Rattle.ng_machine.specs.declared.item.Item.{Item}
use Rattle.ng_machine.specs.Words.{Has, times}
use Rattle.ng_queue.specs.tie.Tie.{without, IsSorted}
use Rattle.ng_queue.specs.tie.TieLaws.{one, CountsLeave}
use Rattle.ng_queue.proofs.tie.SortedItems.{sorted_least}

without_above : (low id : ℕ) (ps : List Item) → IsSorted low ps → id < low → without id ps ≡ ps
without_above low id [] s lt = refl
without_above low id (p ∷ ps) s lt =
    let first = s.0 in
    let e : (p.id.0 == id) ≡ false = ne_eqb p.id.0 id (λ z. absurd (omega arith)) in
    ap (λ (b : Bool). cond (not b) (p ∷ without id ps) (without id ps)) e ∙ ap (λ (l : List Item). p ∷ l) (without_above (p.id.0 + 1) id ps s.1 (omega arith))

pub times_without : (test : Item → Bool) (low : ℕ) (ps : List Item) (p : Item) → IsSorted low ps → Has p ps → times test (without p.id.0 ps) + one (test p) ≡ times test ps
times_without test low [] p s h = absurd h
times_without test low (x ∷ ps) p s (inl e) =
    let z : (x.id.0 == p.id.0) ≡ true = eq-eqb x.id.0 p.id.0 (ap (λ (y : Item). y.id.0) (sym e)) in
    let rest : without p.id.0 ps ≡ ps = without_above (x.id.0 + 1) p.id.0 ps s.1 (let same = ap (λ (y : Item). y.id.0) e in omega arith) in
    let a : times test (without p.id.0 (x ∷ ps)) ≡ times test ps = ap (λ (b : Bool). times test (cond (not b) (x ∷ without p.id.0 ps) (without p.id.0 ps))) z ∙ ap (times test) rest in
    let b : one (test p) ≡ cond (test x) 1 0 = ap (λ (y : Item). one (test y)) e ∙ one_is (test x) in
    omega arith
  where
    one_is : (b : Bool) → one b ≡ cond b 1 0
    one_is true = refl
    one_is false = refl
times_without test low (x ∷ ps) p s (inr h) =
    let le = sorted_least (x.id.0 + 1) ps p s.1 h in
    let z : (x.id.0 == p.id.0) ≡ false = ne_eqb x.id.0 p.id.0 (λ e. absurd (omega arith)) in
    let more = times_without test (x.id.0 + 1) ps p s.1 h in
    let a : times test (without p.id.0 (x ∷ ps)) ≡ cond (test x) 1 0 + times test (without p.id.0 ps) = ap (λ (b : Bool). times test (cond (not b) (x ∷ without p.id.0 ps) (without p.id.0 ps))) z in
    omega arith

pub all_times : (ps : List Item) → times (λ x. true) ps ≡ length ps
all_times [] = refl
all_times (p ∷ ps) = let more = all_times ps in omega arith

pub counts_leave : CountsLeave
counts_leave test items item s h = times_without test 0 items item s h
