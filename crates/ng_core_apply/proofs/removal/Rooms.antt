-- Room for what follows of what waits for a node.
use Rattle.std.proofs.Common.{◌≡◌, ℕ, zero, suc, ◌+◌, ◌<◌, ◌≤◌, List, [], ◌∷◌, length, get_or, Bool, true, false, cond, refl, sym, ap, ◌∙◌, subst, arith}
use Rattle.std.specs.Prelude.{take}
use Rattle.ng_machine.specs.declared.item.Item.{Item}
use Rattle.ng_queue.specs.declared.entry.Entry.{Entry}
use Rattle.ng_queue.specs.declared.entry.Entry.TheVariants.{Waiting, Out}
use Rattle.ng_queue.specs.Queue.{waiting_items}
use Rattle.ng_queue.specs.tie.TieLaws.{one}
use Rattle.ng_core_apply.specs.removal.Drops.{is_node, undoes, undoes_in, undone_by, undone_of}

one_cond : (b : Bool) → cond b 1 0 ≡ one b
one_cond true = refl
one_cond false = refl

-- one item more
pub undoes_one : (item : Item) (items : List Item) (n : ℕ) → undoes (item ∷ items) n ≡ one (is_node n (undone_by item.body)) + undoes items n
undoes_one item items n = let e = one_cond (is_node n (undone_by item.body)) in omega arith

undoes_next : (es : List Entry) (i n : ℕ) (e : Entry) → i < length es → e ≡ get_or es i e → undoes_in (take (suc i) es) n ≡ undoes_in (take i es) n + one (is_node n (undone_of e))
undoes_next [] i n e lt is = absurd (omega arith)
undoes_next (x ∷ es) zero n e lt is =
    let a : cond (is_node n (undone_of x)) 1 0 ≡ one (is_node n (undone_of e)) = one_cond (is_node n (undone_of x)) ∙ ap (λ (y : Entry). one (is_node n (undone_of y))) (sym is) in omega arith
undoes_next (x ∷ es) (suc i) n e lt is = let more = undoes_next es i n e (omega arith) is in omega arith

pub room_next : (es : List Entry) (i n : ℕ) (e : Entry) (first before after : ℕ) → i < length es → e ≡ get_or es i e → first + undoes_in (take i es) n ≤ before
    → before + one (is_node n (undone_of e)) ≤ after → first + undoes_in (take (i + 1) es) n ≤ after
room_next es i n e first before after lt is room more =
    let next = undoes_next es i n e lt is in
    subst (λ (k : ℕ). first + undoes_in (take k es) n ≤ after) (let f : suc i ≡ i + 1 = omega arith in f) (omega arith)

-- what is out needs none
pub undoes_waiting : (es : List Entry) (n : ℕ) → undoes_in es n ≡ undoes (waiting_items es) n
undoes_waiting [] n = refl
undoes_waiting (Waiting item ∷ es) n = ap (λ (k : ℕ). cond (is_node n (undone_by item.body)) 1 0 + k) (undoes_waiting es n)
undoes_waiting (Out mark ∷ es) n = let e = undoes_waiting es n in omega arith

pub fewer_wait : (es : List Entry) → length (waiting_items es) ≤ length es
fewer_wait [] = omega arith
fewer_wait (Waiting item ∷ es) = let le = fewer_wait es in omega arith
fewer_wait (Out mark ∷ es) = let le = fewer_wait es in omega arith

-- one item less, and its place spent
pub undoes_less : (item : Item) (items all : List Item) (n before after : ℕ) → all ≡ item ∷ items → undoes all n ≤ before → before ≤ after + one (is_node n (undone_by item.body)) → undoes items n ≤ after
undoes_less item items all n before after is room spent =
    let a : undoes all n ≡ one (is_node n (undone_by item.body)) + undoes items n = ap (λ (l : List Item). undoes l n) is ∙ undoes_one item items n in omega arith

pub nothing_left : (items : List Item) → length items ≡ 0 → items ≡ []
nothing_left [] e = refl
nothing_left (x ∷ items) e = absurd (omega arith)

-- the entry at a place
entry_at : (es : List Entry) (i : ℕ) → i < length es → (e : Entry) × (e ≡ get_or es i e)
entry_at [] i lt = absurd (omega arith)
entry_at (x ∷ es) zero lt = (x, refl)
entry_at (x ∷ es) (suc i) lt = entry_at es i (omega arith)

pub room_of : (es : List Entry) (i n : ℕ) (first before after : ℕ) → i < length es → first + undoes_in (take i es) n ≤ before
    → ((e : Entry) → e ≡ get_or es i e → before + one (is_node n (undone_of e)) ≤ after) → first + undoes_in (take (i + 1) es) n ≤ after
room_of es i n first before after lt room more = let at = entry_at es i lt in room_next es i n at.0 first before after lt at.1 room (more at.0 at.1)
