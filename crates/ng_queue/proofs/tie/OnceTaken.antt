-- Numbers that are taken once.
use Rattle.std.proofs.Common.{◌≡◌, ℕ, suc, ◌+◌, List, [], ◌∷◌, ◌++◌, length, Bool, true, false, not, ◌||◌, cond, refl, sym, ap, ◌∙◌, subst, arith, true≢false}
use Rattle.std.proofs.lemmas.Bool.{ne_eqb, eqb-true, eqb-false, or_parts}
use Rattle.std.specs.Prelude.{◌==◌}
use Rattle.ng_machine.specs.declared.item.Item.{Item}
use Rattle.ng_machine.specs.Run.{RunState, Taken}
use Rattle.ng_machine.specs.Orderly.{MayTake}
use Rattle.ng_queue.specs.tie.Tie.{is_out, taking, untaken, IsOnce}
use Rattle.ng_queue.proofs.tie.OfQueues.{taken_push}
use Rattle.ng_queue.proofs.tie.Heads.{out_taken}

pub untaken_out : (a : RunState) (item : Item) → MayTake a item → is_out item.id.0 a.taken ≡ false
untaken_out a item M = by (is_out item.id.0 a.taken) refl
  where
    by : (b : Bool) → is_out item.id.0 a.taken ≡ b → is_out item.id.0 a.taken ≡ false
    by true e = absurd (M.untaken (out_taken a.taken item.id e))
    by false e = e

pub once_push : (ts : List Taken) (id seat : ℕ) → IsOnce ts → is_out id ts ≡ false → IsOnce (ts ++ taking id seat ∷ [])
once_push [] id seat o e = (refl, tt)
once_push (t ∷ ts) id seat o e =
    let k = or_parts (t.id.0 == id) (is_out id ts) e in
    let d : (id == t.id.0) ≡ false = ne_eqb id t.id.0 (λ z. eqb-false t.id.0 id k.0 (sym z)) in
    (taken_push t.id.0 id seat ts ∙ ap (λ (b : Bool). b || (id == t.id.0)) o.0 ∙ d, once_push ts id seat o.1 k.1)

untaken_none : (id : ℕ) (ts : List Taken) → is_out id ts ≡ false → untaken id ts ≡ ts
untaken_none id [] e = refl
untaken_none id (t ∷ ts) e =
    let k = or_parts (t.id.0 == id) (is_out id ts) e in
    ap (λ (b : Bool). cond (not b) (t ∷ untaken id ts) (untaken id ts)) k.0 ∙ ap (λ (l : List Taken). t ∷ l) (untaken_none id ts k.1)

length_at : (id : ℕ) (t : Taken) (ts : List Taken) (b : Bool) → (t.id.0 == id) ≡ b → IsOnce (t ∷ ts) → is_out id (t ∷ ts) ≡ true → (is_out id ts ≡ true → length (untaken id ts) + 1 ≡ length ts)
    → length (cond (not b) (t ∷ untaken id ts) (untaken id ts)) + 1 ≡ suc (length ts)
length_at id t ts true e o out more =
    let none : is_out id ts ≡ false = subst (λ (n : ℕ). is_out n ts ≡ false) (eqb-true t.id.0 id e) o.0 in
    let same = ap (λ (l : List Taken). length l) (untaken_none id ts none) in omega arith
length_at id t ts false e o out more = let m = more (sym (ap (λ (b : Bool). b || is_out id ts) e) ∙ out) in omega arith

pub untaken_length : (id : ℕ) (ts : List Taken) → IsOnce ts → is_out id ts ≡ true → length (untaken id ts) + 1 ≡ length ts
untaken_length id [] o e = absurd (true≢false (sym e))
untaken_length id (t ∷ ts) o e = length_at id t ts (t.id.0 == id) refl o e (λ k. untaken_length id ts o.1 k)

out_less : (x id : ℕ) (ts : List Taken) → is_out x ts ≡ false → is_out x (untaken id ts) ≡ false
out_less x id [] e = refl
out_less x id (t ∷ ts) e = let k = or_parts (t.id.0 == x) (is_out x ts) e in by (t.id.0 == id) k.0 (out_less x id ts k.1)
  where
    by : (b : Bool) → (t.id.0 == x) ≡ false → is_out x (untaken id ts) ≡ false → is_out x (cond (not b) (t ∷ untaken id ts) (untaken id ts)) ≡ false
    by true a more = more
    by false a more = ap (λ (c : Bool). c || is_out x (untaken id ts)) a ∙ more

pub once_untaken : (id : ℕ) (ts : List Taken) → IsOnce ts → IsOnce (untaken id ts)
once_untaken id [] o = tt
once_untaken id (t ∷ ts) o = by (t.id.0 == id) (once_untaken id ts o.1)
  where
    by : (b : Bool) → IsOnce (untaken id ts) → IsOnce (cond (not b) (t ∷ untaken id ts) (untaken id ts))
    by true more = more
    by false more = (out_less t.id.0 id ts o.0, more)
