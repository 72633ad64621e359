-- Queues by number: what one of them shows, and what a change of one changes.
use Rattle.std.proofs.Common.{◌≡◌, ℕ, zero, suc, ◌+◌, ◌-◌, ◌<◌, ◌≤◌, List, [], ◌∷◌, ◌++◌, length, map, set, get_or, Bool, true, false, cond, refl, sym, ap, ◌∙◌, subst, ⊎_elim, arith, true≢false, is_some}
use Rattle.std.proofs.lemmas.List.{map-set, length-map, get_or-set_same, get_or-set_other}
use Rattle.std.proofs.lemmas.Bool.{cases_eq, eqb-true}
use Rattle.std.specs.Prelude.{◌==◌, ◌≢◌, filter, IfSome}
use Rattle.std.specs.declared.option.Option.{Option}
use Rattle.std.specs.declared.option.Option.TheVariants.{None, Some}
use Rattle.ng_base.specs.declared.ids.ItemId.{ItemId}
use Rattle.ng_machine.specs.declared.item.Item.{Item}
use Rattle.ng_machine.specs.Body.{has_id}
use Rattle.ng_machine.specs.World.{item_id}
use Rattle.ng_queue.specs.declared.entry.Entry.{Entry}
use Rattle.ng_queue.specs.declared.entry.Entry.TheVariants.{Waiting, Out}
use Rattle.ng_queue.specs.declared.entry.Hold.{Hold}
use Rattle.ng_queue.specs.Queue.{Queue, head, hold_of, id_of, mark_of, take_out, put_back, is_other, IsBelow}
use Rattle.ng_queue.specs.Queues.{QueueLists, list_at, spare_at, list_of, spare_of, ready_unless, ready_of, NoneReady, IsLeast}
use Rattle.ng_queue.specs.Ready.{NoId, IsLeastId}

pub list_here : (qs : List Queue) (at : ℕ) (q : Queue) → at < length qs → q ≡ get_or qs at q → list_at (map list_of qs) at ≡ q.entries
list_here [] at q lt is = absurd (omega arith)
list_here (x ∷ qs) zero q lt is = ap list_of (sym is)
list_here (x ∷ qs) (suc at) q lt is = list_here qs at q (omega arith) is

pub spare_here : (qs : List Queue) (at : ℕ) (q : Queue) → at < length qs → q ≡ get_or qs at q → spare_at (map spare_of qs) at ≡ q.spare
spare_here [] at q lt is = absurd (omega arith)
spare_here (x ∷ qs) zero q lt is = ap spare_of (sym is)
spare_here (x ∷ qs) (suc at) q lt is = spare_here qs at q (omega arith) is

pub lists_set : (qs : List Queue) (at : ℕ) (q : Queue) → map list_of (set qs at q) ≡ set (map list_of qs) at q.entries
lists_set qs at q = map-set list_of qs at q

pub readies_set : (qs : List Queue) (at : ℕ) (q : Queue) → map ready_of (map list_of (set qs at q)) ≡ set (map ready_of (map list_of qs)) at (ready_of q.entries)
readies_set qs at q = ap (map ready_of) (map-set list_of qs at q) ∙ map-set ready_of (map list_of qs) at q.entries

pub ready_at : (lists : List (List Entry)) (n : ℕ) → get_or (map ready_of lists) n None ≡ ready_of (list_at lists n)
ready_at [] n = refl
ready_at (es ∷ lists) zero = refl
ready_at (es ∷ lists) (suc n) = ready_at lists n

pub none_ready : (lists : List (List Entry)) (xs : List (Option ℕ)) → xs ≡ map ready_of lists → NoId xs → NoneReady lists
none_ready lists xs is h n = sym (ready_at lists n) ∙ ap (λ (l : List (Option ℕ)). get_or l n None) (sym is) ∙ h n

pub least_ready : (lists : List (List Entry)) (xs : List (Option ℕ)) (at : ℕ) → xs ≡ map ready_of lists → IsLeastId xs at → IsLeast lists at
least_ready lists xs at is L = record {
  id = L.id;
  is_ready = sym (ready_at lists at) ∙ ap (λ (l : List (Option ℕ)). get_or l at None) (sym is) ∙ L.is;
  least = λ n other e. L.least n other (ap (λ (l : List (Option ℕ)). get_or l n None) is ∙ ready_at lists n ∙ e);
}

pub lists_same : (qs : List Queue) (at : ℕ) (p q : Queue) → at < length qs → p ≡ get_or qs at p → q.entries ≡ p.entries → map list_of (set qs at q) ≡ map list_of qs
lists_same [] at p q lt is same = refl
lists_same (x ∷ qs) zero p q lt is same = let e : q.entries ≡ x.entries = same ∙ ap list_of is in ap (λ (es : List Entry). es ∷ map list_of qs) e
lists_same (x ∷ qs) (suc at) p q lt is same = ap (λ (l : List (List Entry)). x.entries ∷ l) (lists_same qs at p q (omega arith) is same)

pub spares_more : (qs : List Queue) (at : ℕ) (p q : Queue) (k : ℕ) → at < length qs → p ≡ get_or qs at p → p.spare ≤ q.spare → spare_at (map spare_of qs) k ≤ spare_at (map spare_of (set qs at q)) k
spares_more [] at p q k lt is le = omega arith
spares_more (x ∷ qs) zero p q zero lt is le = let e : p.spare ≡ x.spare = ap spare_of is in omega arith
spares_more (x ∷ qs) zero p q (suc k) lt is le = omega arith
spares_more (x ∷ qs) (suc at) p q zero lt is le = omega arith
spares_more (x ∷ qs) (suc at) p q (suc k) lt is le = spares_more qs at p q k (omega arith) is le

pub is_there : (qs : List Queue) (v : QueueLists) (at : ℕ) → record { lists = map list_of qs; spares = map spare_of qs } ≡ v → at < length v.lists → at < length qs
is_there qs v at is lt = let e : length v.lists ≡ length qs = ap (λ (u : QueueLists). length u.lists) (sym is) ∙ length-map qs list_of in omega arith

-- the list of a queue as the value has it
pub value_here : (qs : List Queue) (v : QueueLists) (at : ℕ) (q : Queue) → record { lists = map list_of qs; spares = map spare_of qs } ≡ v → at < length qs → q ≡ get_or qs at q → list_at v.lists at ≡ q.entries
value_here qs v at q is lt e = ap (λ (u : QueueLists). list_at u.lists at) (sym is) ∙ list_here qs at q lt e

-- after a call on the queue at that place, by the list that it then has
pub lists_put : (qs : List Queue) (v : QueueLists) (at : ℕ) (was now : Queue) (f : List Entry → List Entry) → record { lists = map list_of qs; spares = map spare_of qs } ≡ v → at < length qs → was ≡ get_or qs at was → now.entries ≡ f was.entries → map list_of (set qs at now) ≡ set v.lists at (f (list_at v.lists at))
lists_put qs v at was now f is lt w e =
    map-set list_of qs at now ∙ ap (λ (u : QueueLists). set u.lists at now.entries) is ∙ ap (set v.lists at) (e ∙ ap f (sym (value_here qs v at was is lt w)))

pub ready_put : (qs : List Queue) (at : ℕ) (now seen : Queue) (ready after : List (Option ℕ)) (id : Option ℕ) → at < length qs → ready ≡ map ready_of (map list_of qs) → after ≡ set ready at id → id ≡ ready_of seen.entries → seen ≡ get_or (set qs at now) at seen → after ≡ map ready_of (map list_of (set qs at now))
ready_put qs at now seen ready after id lt kept put is e =
    let same : seen ≡ now = e ∙ get_or-set_same qs at now seen lt in
    put ∙ ap (λ (r : List (Option ℕ)). set r at id) kept ∙ ap (set (map ready_of (map list_of qs)) at) (is ∙ ap (λ (q : Queue). ready_of q.entries) same) ∙ sym (readies_set qs at now)

pub spare_set : (qs : List Queue) (at : ℕ) (now : Queue) → at < length qs → spare_at (map spare_of (set qs at now)) at ≡ now.spare
spare_set qs at now lt = ap (λ (l : List ℕ). get_or l at 0) (map-set spare_of qs at now) ∙ get_or-set_same (map spare_of qs) at now.spare 0 (let e = length-map qs spare_of in omega arith)

set_same : (xs : List ℕ) (at x : ℕ) → x ≡ get_or xs at 0 → set xs at x ≡ xs
set_same [] at x e = refl
set_same (y ∷ xs) zero x e = ap (λ (z : ℕ). z ∷ xs) e
set_same (y ∷ xs) (suc at) x e = ap (λ (l : List ℕ). y ∷ l) (set_same xs at x e)

-- the room stays, or one place is spent
pub spares_put : (qs : List Queue) (v : QueueLists) (at : ℕ) (now : Queue) → record { lists = map list_of qs; spares = map spare_of qs } ≡ v → map spare_of (set qs at now) ≡ set v.spares at now.spare
spares_put qs v at now e = map-set spare_of qs at now ∙ ap (λ (u : QueueLists). set u.spares at now.spare) e

pub spares_kept : (qs : List Queue) (v : QueueLists) (at : ℕ) (was now : Queue) → record { lists = map list_of qs; spares = map spare_of qs } ≡ v → at < length qs → was ≡ get_or qs at was → now.spare ≡ was.spare → map spare_of (set qs at now) ≡ v.spares
spares_kept qs v at was now is lt w e =
    map-set spare_of qs at now ∙ set_same (map spare_of qs) at now.spare (e ∙ sym (spare_here qs at was lt w)) ∙ ap (λ (u : QueueLists). u.spares) is

pub spares_narrowed : (qs : List Queue) (v : QueueLists) (at : ℕ) (was now : Queue) → record { lists = map list_of qs; spares = map spare_of qs } ≡ v → at < length qs → was ≡ get_or qs at was → now.spare ≡ was.spare - 1 → map spare_of (set qs at now) ≡ set v.spares at (spare_at v.spares at - 1)
spares_narrowed qs v at was now is lt w e =
    let here : spare_at v.spares at ≡ was.spare = ap (λ (u : QueueLists). spare_at u.spares at) (sym is) ∙ spare_here qs at was lt w in
    map-set spare_of qs at now ∙ ap (λ (u : QueueLists). set u.spares at now.spare) is ∙ ap (set v.spares at) (let f : now.spare ≡ spare_at v.spares at - 1 = omega arith in f)

pub spares_spent : (qs : List Queue) (v : QueueLists) (at : ℕ) (was now : Queue) → record { lists = map list_of qs; spares = map spare_of qs } ≡ v → at < length qs → was ≡ get_or qs at was → now.spare + 1 ≡ was.spare → map spare_of (set qs at now) ≡ set v.spares at (spare_at v.spares at - 1)
spares_spent qs v at was now is lt w e = spares_narrowed qs v at was now is lt w (omega arith)

-- NUMBERS STAY BELOW

pub below_push : (m : ItemId) (es : List Entry) (p : Item) → IsBelow m es → p.id.0 < m.0 → IsBelow m (es ++ Waiting p ∷ [])
below_push m [] p b lt = (lt, tt)
below_push m (e ∷ es) p b lt = (b.0, below_push m es p b.1 lt)

takes_id : (id : ItemId) (e : Entry) → (id_of (take_out id e)).0 ≡ (id_of e).0
takes_id id (Out m) = refl
takes_id id (Waiting p) = by (has_id id p)
  where
    by : (b : Bool) → (id_of (cond b (Out (mark_of p)) (Waiting p))).0 ≡ p.id.0
    by true = refl
    by false = refl

pub below_take_out : (m id : ItemId) (es : List Entry) → IsBelow m es → IsBelow m (map (take_out id) es)
below_take_out m id [] b = tt
below_take_out m id (e ∷ es) b = (let same = takes_id id e in let lt = b.0 in omega arith, below_take_out m id es b.1)

gives_id : (p : Item) (e : Entry) → (id_of (put_back p e)).0 ≡ (id_of e).0
gives_id p (Waiting q) = refl
gives_id p (Out m) = by (m.id.0 == p.id.0) refl
  where
    by : (b : Bool) → (m.id.0 == p.id.0) ≡ b → (id_of (cond b (Waiting p) (Out m))).0 ≡ m.id.0
    by true e = sym (eqb-true m.id.0 p.id.0 e)
    by false e = refl

pub below_put_back : (m : ItemId) (p : Item) (es : List Entry) → IsBelow m es → IsBelow m (map (put_back p) es)
below_put_back m p [] b = tt
below_put_back m p (e ∷ es) b = (let same = gives_id p e in let lt = b.0 in omega arith, below_put_back m p es b.1)

pub below_others : (m id : ItemId) (es : List Entry) → IsBelow m es → IsBelow m (filter (is_other id) es)
below_others m id [] b = tt
below_others m id (e ∷ es) b = by (is_other id e) (below_others m id es b.1)
  where
    by : (c : Bool) → IsBelow m (filter (is_other id) es) → IsBelow m (cond c (e ∷ filter (is_other id) es) (filter (is_other id) es))
    by true more = (b.0, more)
    by false more = more

-- of each queue, when one is another
pub below_put : (qs : List Queue) (at : ℕ) (now : Queue) (m : ItemId) → at < length qs → IsBelow m now.entries → ((n : ℕ) → IsBelow m (list_at (map list_of qs) n)) → (n : ℕ) → IsBelow m (list_at (map list_of (set qs at now)) n)
below_put qs at now m lt here all n =
    subst (λ (l : List (List Entry)). IsBelow m (list_at l n)) (sym (map-set list_of qs at now))
    (⊎_elim
    (λ (e : n ≡ at). subst (λ (k : ℕ). IsBelow m (list_at (set (map list_of qs) at now.entries) k)) (sym e) (subst (IsBelow m) (sym (get_or-set_same (map list_of qs) at now.entries [] (let f = length-map qs list_of in omega arith))) here))
    (λ (d : n ≢ at). subst (IsBelow m) (sym (get_or-set_other (map list_of qs) at n now.entries [] d)) (all n))
    (cases_eq n at))

-- the list of the queue that was found
pub below_found : (qs : List Queue) (at : ℕ) (was : Queue) (m : ItemId) → at < length qs → was ≡ get_or qs at was → ((n : ℕ) → IsBelow m (list_at (map list_of qs) n)) → IsBelow m was.entries
below_found qs at was m lt w all = subst (IsBelow m) (list_here qs at was lt w) (all at)

head_below : (m : ItemId) (es : List Entry) (p : Item) → IsBelow m es → head es ≡ Some p → p.id.0 < m.0
head_below m [] p b e = absurd (true≢false (sym (ap is_some e)))
head_below m (Waiting q ∷ es) p b e = let same : q ≡ p = cc in subst (λ (x : Item). x.id.0 < m.0) same b.0
head_below m (Out k ∷ es) p b e = head_below m es p b.1 e

by_hold : (m : ItemId) (h : Option Hold) (o : Option Item) (id : ℕ) → ((p : Item) → o ≡ Some p → p.id.0 < m.0) → ready_unless h o ≡ Some id → id < m.0
by_hold m None None id f e = absurd (true≢false (sym (ap is_some e)))
by_hold m None (Some p) id f e = let same : p.id.0 ≡ id = cc in let lt = f p refl in omega arith
by_hold m (Some why) o id f e = absurd (true≢false (sym (ap is_some e)))

pub ready_below : (m : ItemId) (es : List Entry) (id : ℕ) → IsBelow m es → ready_of es ≡ Some id → id < m.0
ready_below m es id b e = by_hold m (hold_of es) (head es) id (λ p is. head_below m es p b is) e

-- A QUEUE THAT IS THE LEAST

pub least_there : (lists : List (List Entry)) (at : ℕ) → IsLeast lists at → at < length lists
least_there lists at L = by lists at L.id L.is_ready
  where
    by : (ls : List (List Entry)) (n id : ℕ) → ready_of (list_at ls n) ≡ Some id → n < length ls
    by [] n id e = absurd (true≢false (sym (ap is_some e)))
    by (l ∷ ls) zero id e = omega arith
    by (l ∷ ls) (suc n) id e = let lt = by ls n id e in omega arith

free_by : (h : Option Hold) (o : Option Item) (id : ℕ) → ready_unless h o ≡ Some id → (h ≡ None) × (is_some o ≡ true)
free_by None None id e = absurd (true≢false (sym (ap is_some e)))
free_by None (Some p) id e = (refl, refl)
free_by (Some why) o id e = absurd (true≢false (sym (ap is_some e)))

pub least_free : (lists : List (List Entry)) (at : ℕ) → IsLeast lists at → (hold_of (list_at lists at) ≡ None) × (is_some (head (list_at lists at)) ≡ true)
least_free lists at L = free_by (hold_of (list_at lists at)) (head (list_at lists at)) L.id L.is_ready

low_of : (o : Option ℕ) (es : List Entry) → IsBelow (item_id 18446744073709551615) es → o ≡ ready_of es → IfSome o (λ (x : ℕ). x < 18446744073709551615)
low_of None es b e = tt
low_of (Some x) es b e = ready_below (item_id 18446744073709551615) es x b (sym e)

-- the number that is put into the tree is below the one that stands for none
pub ready_low : (qs : List Queue) (at : ℕ) (now seen : Queue) (id : Option ℕ) → at < length qs → IsBelow (item_id 18446744073709551615) now.entries → id ≡ ready_of seen.entries → seen ≡ get_or (set qs at now) at seen → IfSome id (λ (x : ℕ). x < 18446744073709551615)
ready_low qs at now seen id lt b is e =
    let same : seen ≡ now = e ∙ get_or-set_same qs at now seen lt in
    low_of id now.entries b (is ∙ ap (λ (q : Queue). ready_of q.entries) same)

pub spare_now : (qs : List Queue) (v : QueueLists) (at : ℕ) (was : Queue) → record { lists = map list_of qs; spares = map spare_of qs } ≡ v → at < length qs → was ≡ get_or qs at was → spare_at v.spares at ≡ was.spare
spare_now qs v at was is lt w = ap (λ (u : QueueLists). spare_at u.spares at) (sym is) ∙ spare_here qs at was lt w
