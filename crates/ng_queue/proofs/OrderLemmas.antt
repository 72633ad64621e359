-- Entries stay in order of their numbers where one is pushed, goes out, comes back or is removed.
use Rattle.std.proofs.Common.{◌≡◌, ℕ, ◌+◌, ◌<◌, ◌≤◌, zero, suc, Bool, true, false, cond, List, [], ◌∷◌, ◌++◌, map, length, drop, set, slice_get, refl, sym, ap, ◌∙◌, subst, arith}
use Rattle.std.specs.Prelude.{◌==◌, filter, remove, Option, Some, None}
use Rattle.std.proofs.lemmas.Option.{slice_get_within}
use Rattle.ng_base.specs.declared.ids.ItemId.{ItemId}
use Rattle.ng_machine.specs.declared.item.Item.{Item}
use Rattle.ng_queue.specs.declared.entry.Mark.{Mark}
use Rattle.ng_queue.specs.declared.entry.Entry.{Entry}
use Rattle.ng_queue.specs.declared.entry.Entry.TheVariants.{Waiting, Out}
use Rattle.ng_queue.specs.Places.{IsHeadAt, WaitsAs, IsOutAt, OutAs}
use Rattle.ng_queue.specs.Queue.{AllWait, Ascends, IsBelow, IsOutAs, IsOut, head, id_of, mark_of, take_out, put_back, is_other}

abbrev number : Entry → ℕ
number e = (id_of e).0

-- a push
pub ascends_push : (low : ℕ) (es : List Entry) (p : Item) → Ascends low es → IsBelow p.id es → low ≤ p.id.0 → Ascends low (es ++ Waiting p ∷ [])
ascends_push low [] p a b le = (le, tt)
ascends_push low (e ∷ es) p a b le = (a.0, ascends_push (number e + 1) es p a.1 b.1 (let lt = b.0 in omega arith))

pub waits_push : (k : ℕ) (es : List Entry) (p : Item) → k ≤ length es → AllWait (drop k es) → AllWait (drop k (es ++ Waiting p ∷ []))
waits_push zero [] p le w = tt
waits_push zero (Waiting q ∷ es) p le w = waits_push zero es p (omega arith) w
waits_push zero (Out m ∷ es) p le w = w
waits_push (suc k) [] p le w = absurd (omega arith)
waits_push (suc k) (e ∷ es) p le w = waits_push k es p (omega arith) w

-- an entry that gets another of the same number
pub ascends_set : (low : ℕ) (es : List Entry) (k : ℕ) (e f : Entry) → Ascends low es → slice_get es k ≡ Some e → number f ≡ number e → Ascends low (set es k f)
ascends_set low [] k e f a is same = tt
ascends_set low (x ∷ es) zero e f a is same =
    let q : number f ≡ number x = let r : x ≡ e = cc in same ∙ ap number (sym r) in
    (subst (λ (n : ℕ). low ≤ n) (sym q) a.0, subst (λ (n : ℕ). Ascends (n + 1) es) (sym q) a.1)
ascends_set low (x ∷ es) (suc k) e f a is same = (a.0, ascends_set (number x + 1) es k e f a.1 is same)

waits_tail : (r s : ℕ) (es : List Entry) → r ≤ s → AllWait (drop r es) → AllWait (drop s es)
waits_tail r zero es le w = subst (λ (n : ℕ). AllWait (drop n es)) (let e : r ≡ 0 = omega arith in e) w
waits_tail r (suc s) [] le w = tt
waits_tail zero (suc s) (Waiting p ∷ es) le w = waits_tail zero s es (omega arith) w
waits_tail zero (suc s) (Out m ∷ es) le w = absurd w
waits_tail (suc r) (suc s) (e ∷ es) le w = waits_tail r s es (omega arith) w

drop_set : (es : List Entry) (at r : ℕ) (f : Entry) → at < r → drop r (set es at f) ≡ drop r es
drop_set [] at r f lt = refl
drop_set (e ∷ es) at zero f lt = absurd (omega arith)
drop_set (e ∷ es) zero (suc r) f lt = refl
drop_set (e ∷ es) (suc at) (suc r) f lt = drop_set es at r f (omega arith)

pub waits_set : (r s at : ℕ) (es : List Entry) (f : Entry) → AllWait (drop r es) → r ≤ s → at < s → AllWait (drop s (set es at f))
waits_set r s at es f w le lt = subst AllWait (sym (drop_set es at s f lt)) (waits_tail r s es le w)

-- THE HEAD GOES OUT

head_got : (p : Item) (h : Option Item) (o : Option Entry) → h ≡ Some p → WaitsAs h o → o ≡ Some (Waiting p)
head_got p h None is n = let z : None ≡ Some p = sym n ∙ is in absurd (cc)
head_got p h (Some (Waiting q)) is n = let z : Some q ≡ Some p = sym n ∙ is in let y : q ≡ p = cc in ap (λ (x : Item). Some (Waiting x)) y
head_got p h (Some (Out m)) is n = absurd n

head_get : (es : List Entry) (k : ℕ) (p : Item) → IsHeadAt es k → head es ≡ Some p → slice_get es k ≡ Some (Waiting p)
head_get es k p h is = head_got p (head es) (slice_get es k) is h

pub head_within : (es : List Entry) (k : ℕ) (p : Item) → IsHeadAt es k → head es ≡ Some p → k < length es
head_within es k p h is = slice_get_within es k (Waiting p) (head_get es k p h is)

-- those above keep their entries
take_out_above : (low : ℕ) (id : ItemId) (es : List Entry) → Ascends low es → id.0 < low → map (take_out id) es ≡ es
take_out_above low id [] a lt = refl
take_out_above low id (Waiting p ∷ es) a lt =
    let rest = take_out_above (p.id.0 + 1) id es a.1 (let le = a.0 in omega arith) in
    let other : (p.id.0 == id.0) ≡ false = let le = a.0 in grind arith in
    ap (λ (b : Bool). cond b (Out (mark_of p)) (Waiting p) ∷ map (take_out id) es) other ∙ ap (λ (xs : List Entry). Waiting p ∷ xs) rest
take_out_above low id (Out m ∷ es) a lt = ap (λ (xs : List Entry). Out m ∷ xs) (take_out_above (m.id.0 + 1) id es a.1 (let le = a.0 in omega arith))

-- numbers from low on are at least low
at_least : (low : ℕ) (es : List Entry) (k : ℕ) (e : Entry) → Ascends low es → slice_get es k ≡ Some e → low ≤ number e
at_least low [] k e a is = absurd (cc)
at_least low (x ∷ es) zero e a is = let r : x ≡ e = cc in subst (λ (y : Entry). low ≤ number y) r a.0
at_least low (x ∷ es) (suc k) e a is = let le = at_least (number x + 1) es k e a.1 is in let first = a.0 in omega arith

take_out_get : (low : ℕ) (es : List Entry) (k : ℕ) (p : Item) → Ascends low es → slice_get es k ≡ Some (Waiting p) → map (take_out p.id) es ≡ set es k (Out (mark_of p))
take_out_get low [] k p a is = absurd (cc)
take_out_get low (x ∷ es) zero p a is =
    let r : x ≡ Waiting p = cc in
    let above : Ascends (p.id.0 + 1) es = subst (λ (y : Entry). Ascends (number y + 1) es) r a.1 in
    let here : take_out p.id (Waiting p) ≡ Out (mark_of p) = let e : (p.id.0 == p.id.0) ≡ true = grind arith in ap (λ (b : Bool). cond b (Out (mark_of p)) (Waiting p)) e in
    ap (λ (y : Entry). take_out p.id y ∷ map (take_out p.id) es) r ∙ ap (λ (y : Entry). y ∷ map (take_out p.id) es) here ∙ ap (λ (xs : List Entry). Out (mark_of p) ∷ xs) (take_out_above (p.id.0 + 1) p.id es above (omega arith))
take_out_get low (Waiting q ∷ es) (suc k) p a is =
    let le = at_least (q.id.0 + 1) es k (Waiting p) a.1 is in
    let other : (q.id.0 == p.id.0) ≡ false = grind arith in
    ap (λ (b : Bool). cond b (Out (mark_of q)) (Waiting q) ∷ map (take_out p.id) es) other ∙ ap (λ (xs : List Entry). Waiting q ∷ xs) (take_out_get (q.id.0 + 1) es k p a.1 is)
take_out_get low (Out m ∷ es) (suc k) p a is = ap (λ (xs : List Entry). Out m ∷ xs) (take_out_get (m.id.0 + 1) es k p a.1 is)

pub take_out_head : (low : ℕ) (es : List Entry) (k : ℕ) (p : Item) → Ascends low es → IsHeadAt es k → head es ≡ Some p → set es k (Out (mark_of p)) ≡ map (take_out p.id) es
take_out_head low es k p a h is = sym (take_out_get low es k p a (head_get es k p h is))

pub ascends_take_out : (low : ℕ) (es : List Entry) (k : ℕ) (p : Item) → Ascends low es → IsHeadAt es k → head es ≡ Some p → Ascends low (set es k (Out (mark_of p)))
ascends_take_out low es k p a h is = ascends_set low es k (Waiting p) (Out (mark_of p)) a (head_get es k p h is) refl

-- AN ITEM COMES BACK

out_id_at : (m n : Mark) (es : List Entry) (b : Bool) → (n.id.0 == m.id.0) ≡ b → (IsOutAs m es → IsOut m.id es) → cond b (n ≡ m) (IsOutAs m es) → cond b (Unit {0}) (IsOut m.id es)
out_id_at m n es true e more o = tt
out_id_at m n es false e more o = more o

out_as_id : (m : Mark) (es : List Entry) → IsOutAs m es → IsOut m.id es
out_as_id m [] o = o
out_as_id m (Waiting p ∷ es) o = out_as_id m es o
out_as_id m (Out n ∷ es) o = out_id_at m n es (n.id.0 == m.id.0) refl (out_as_id m es) o

pub out_id : (p : Item) (es : List Entry) → IsOutAs (mark_of p) es → IsOut p.id es
out_id p es o = out_as_id (mark_of p) es o

-- the entry at that place
out_got : (x : Option Entry) (id : ItemId) → OutAs id x → (m : Mark) × (x ≡ Some (Out m)) × (m.id ≡ id)
out_got None id n = absurd n
out_got (Some (Waiting q)) id n = absurd n
out_got (Some (Out m)) id n = (m, refl, n)

out_get : (es : List Entry) (id : ItemId) (k : ℕ) → IsOutAt es id k → (m : Mark) × (slice_get es k ≡ Some (Out m)) × (m.id ≡ id)
out_get es id k o = out_got (slice_get es k) id o

put_back_above : (low : ℕ) (p : Item) (es : List Entry) → Ascends low es → p.id.0 < low → map (put_back p) es ≡ es
put_back_above low p [] a lt = refl
put_back_above low p (Waiting q ∷ es) a lt = ap (λ (xs : List Entry). Waiting q ∷ xs) (put_back_above (q.id.0 + 1) p es a.1 (let le = a.0 in omega arith))
put_back_above low p (Out m ∷ es) a lt =
    let rest = put_back_above (m.id.0 + 1) p es a.1 (let le = a.0 in omega arith) in
    let other : (m.id.0 == p.id.0) ≡ false = let le = a.0 in grind arith in
    ap (λ (b : Bool). cond b (Waiting p) (Out m) ∷ map (put_back p) es) other ∙ ap (λ (xs : List Entry). Out m ∷ xs) rest

put_back_get : (low : ℕ) (es : List Entry) (k : ℕ) (p : Item) (m : Mark) → Ascends low es → slice_get es k ≡ Some (Out m) → m.id.0 ≡ p.id.0 → map (put_back p) es ≡ set es k (Waiting p)
put_back_get low [] k p m a is same = absurd (cc)
put_back_get low (x ∷ es) zero p m a is same =
    let r : x ≡ Out m = cc in
    let above : Ascends (p.id.0 + 1) es = subst (λ (n : ℕ). Ascends (n + 1) es) (ap number r ∙ same) a.1 in
    let here : put_back p (Out m) ≡ Waiting p = let e : (m.id.0 == p.id.0) ≡ true = grind arith in ap (λ (b : Bool). cond b (Waiting p) (Out m)) e in
    ap (λ (y : Entry). put_back p y ∷ map (put_back p) es) r ∙ ap (λ (y : Entry). y ∷ map (put_back p) es) here ∙ ap (λ (xs : List Entry). Waiting p ∷ xs) (put_back_above (p.id.0 + 1) p es above (omega arith))
put_back_get low (Waiting q ∷ es) (suc k) p m a is same = ap (λ (xs : List Entry). Waiting q ∷ xs) (put_back_get (q.id.0 + 1) es k p m a.1 is same)
put_back_get low (Out n ∷ es) (suc k) p m a is same =
    let le = at_least (n.id.0 + 1) es k (Out m) a.1 is in
    let other : (n.id.0 == p.id.0) ≡ false = grind arith in
    ap (λ (b : Bool). cond b (Waiting p) (Out n) ∷ map (put_back p) es) other ∙ ap (λ (xs : List Entry). Out n ∷ xs) (put_back_get (n.id.0 + 1) es k p m a.1 is same)

id_number : (a b : ItemId) → a ≡ b → a.0 ≡ b.0
id_number a b is = ap (λ (id : ItemId). id.0) is

pub put_back_at : (low : ℕ) (es : List Entry) (k : ℕ) (p : Item) → Ascends low es → IsOutAt es p.id k → set es k (Waiting p) ≡ map (put_back p) es
put_back_at low es k p a o = let g = out_get es p.id k o in sym (put_back_get low es k p g.0 a g.1 (id_number g.0.id p.id g.2))

pub ascends_put_back : (low : ℕ) (es : List Entry) (k : ℕ) (p : Item) → Ascends low es → IsOutAt es p.id k → Ascends low (set es k (Waiting p))
ascends_put_back low es k p a o = let g = out_get es p.id k o in ascends_set low es k (Out g.0) (Waiting p) a g.1 (sym (id_number g.0.id p.id g.2))

-- AN ITEM IS DONE

other_above : (low : ℕ) (id : ItemId) (es : List Entry) → Ascends low es → id.0 < low → filter (is_other id) es ≡ es
other_above low id [] a lt = refl
other_above low id (e ∷ es) a lt =
    let rest = other_above (number e + 1) id es a.1 (let le = a.0 in omega arith) in
    let other : is_other id e ≡ true = let le = a.0 in grind arith in
    ap (λ (b : Bool). cond b (e ∷ filter (is_other id) es) (filter (is_other id) es)) other ∙ ap (λ (xs : List Entry). e ∷ xs) rest

removes_get : (low : ℕ) (es : List Entry) (k : ℕ) (e : Entry) → Ascends low es → slice_get es k ≡ Some e → filter (is_other (id_of e)) es ≡ remove es k
removes_get low [] k e a is = absurd (cc)
removes_get low (x ∷ es) zero e a is =
    let r : x ≡ e = cc in
    let above : Ascends (number e + 1) es = subst (λ (y : Entry). Ascends (number y + 1) es) r a.1 in
    let same : is_other (id_of e) x ≡ false = let q = ap number r in grind arith in
    ap (λ (b : Bool). cond b (x ∷ filter (is_other (id_of e)) es) (filter (is_other (id_of e)) es)) same ∙ other_above (number e + 1) (id_of e) es above (omega arith)
removes_get low (x ∷ es) (suc k) e a is =
    let le = at_least (number x + 1) es k e a.1 is in
    let other : is_other (id_of e) x ≡ true = grind arith in
    ap (λ (b : Bool). cond b (x ∷ filter (is_other (id_of e)) es) (filter (is_other (id_of e)) es)) other ∙ ap (λ (xs : List Entry). x ∷ xs) (removes_get (number x + 1) es k e a.1 is)

pub removes_at : (low : ℕ) (es : List Entry) (k : ℕ) (id : ItemId) → Ascends low es → IsOutAt es id k → remove es k ≡ filter (is_other id) es
removes_at low es k id a o = let g = out_get es id k o in sym (subst (λ (n : ItemId). filter (is_other n) es ≡ remove es k) g.2 (removes_get low es k (Out g.0) a g.1))

ascends_lower : (low high : ℕ) (es : List Entry) → low ≤ high → Ascends high es → Ascends low es
ascends_lower low high [] le a = tt
ascends_lower low high (e ∷ es) le a = (let first = a.0 in omega arith, a.1)

pub ascends_removed : (low : ℕ) (es : List Entry) (k : ℕ) → Ascends low es → Ascends low (remove es k)
ascends_removed low [] zero a = tt
ascends_removed low [] (suc k) a = tt
ascends_removed low (e ∷ es) zero a = ascends_lower low (number e + 1) es (let first = a.0 in omega arith) a.1
ascends_removed low (e ∷ es) (suc k) a = (a.0, ascends_removed (number e + 1) es k a.1)

drop_remove : (es : List Entry) (k r : ℕ) → k ≤ r → drop r (remove es k) ≡ drop (suc r) es
drop_remove [] zero zero le = refl
drop_remove [] zero (suc r) le = refl
drop_remove [] (suc k) zero le = refl
drop_remove [] (suc k) (suc r) le = refl
drop_remove (e ∷ es) zero r le = refl
drop_remove (e ∷ es) (suc k) zero le = absurd (omega arith)
drop_remove (e ∷ es) (suc k) (suc r) le = drop_remove es k r (omega arith)

pub waits_removed : (es : List Entry) (k r s : ℕ) → k < r → s + 1 ≡ r → AllWait (drop r es) → AllWait (drop s (remove es k))
waits_removed es k r s lt is w = subst AllWait (sym (drop_remove es k s (omega arith))) (subst (λ (n : ℕ). AllWait (drop n es)) (let e : r ≡ suc s = omega arith in e) w)

-- THE HEAD LEAVES FOR GOOD

pub removes_head : (low : ℕ) (es : List Entry) (k : ℕ) (p : Item) → Ascends low es → IsHeadAt es k → head es ≡ Some p → remove es k ≡ filter (is_other p.id) es
removes_head low es k p a h is = sym (removes_get low es k (Waiting p) a (head_get es k p h is))

all_wait_remove : (es : List Entry) (k : ℕ) → AllWait es → AllWait (remove es k)
all_wait_remove [] zero w = tt
all_wait_remove [] (suc k) w = tt
all_wait_remove (Waiting p ∷ es) zero w = w
all_wait_remove (Waiting p ∷ es) (suc k) w = all_wait_remove es k w
all_wait_remove (Out m ∷ es) k w = absurd w

-- those from r on wait, and still do without one of them
pub waits_without : (es : List Entry) (k r : ℕ) → r ≤ k → AllWait (drop r es) → AllWait (drop r (remove es k))
waits_without es k zero le w = all_wait_remove es k w
waits_without [] zero (suc r) le w = tt
waits_without [] (suc k) (suc r) le w = tt
waits_without (e ∷ es) zero (suc r) le w = absurd (omega arith)
waits_without (e ∷ es) (suc k) (suc r) le w = waits_without es k r (omega arith) w

-- WHAT IS TAKEN CAN BE PUT BACK

head_above : (low : ℕ) (es : List Entry) (p : Item) → Ascends low es → head es ≡ Some p → low ≤ p.id.0
head_above low [] p a h = absurd (cc)
head_above low (Waiting q ∷ es) p a h = let same : q ≡ p = cc in subst (λ (x : Item). low ≤ x.id.0) same a.0
head_above low (Out m ∷ es) p a h = let le = a.0 in let more = head_above (m.id.0 + 1) es p a.1 h in omega arith

taken_own : (p : Item) (es : List Entry) → IsOutAs (mark_of p) (take_out p.id (Waiting p) ∷ es)
taken_own p es = let e : (p.id.0 == p.id.0) ≡ true = grind arith in rw (e, e) refl

pub out_head : (low : ℕ) (es : List Entry) (p : Item) → Ascends low es → head es ≡ Some p → IsOutAs (mark_of p) (map (take_out p.id) es)
out_head low [] p a h = absurd (cc)
out_head low (Waiting q ∷ es) p a h =
    let same : p ≡ q = cc in
    subst (λ (x : Item). IsOutAs (mark_of p) (take_out p.id (Waiting x) ∷ map (take_out p.id) es)) same (taken_own p (map (take_out p.id) es))
out_head low (Out m ∷ es) p a h =
    let le = head_above (m.id.0 + 1) es p a.1 h in
    let other : (m.id.0 == p.id.0) ≡ false = grind arith in
    rw other (out_head (m.id.0 + 1) es p a.1 h)

pub first_removed : (es : List Entry) → drop 1 es ≡ remove es 0
first_removed [] = refl
first_removed (e ∷ es) = refl
