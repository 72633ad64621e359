-- The queue's rule for its head is the rule for one item of the list.
use Rattle.std.proofs.Common.{◌≡◌, ◌⊎◌, ℕ, zero, suc, ◌+◌, ◌<◌, ◌≤◌, List, [], ◌∷◌, Bool, true, false, cond, refl, sym, ap, ◌∙◌, subst, inl, inr, ⊎_elim, arith, true≢false}
use Rattle.std.specs.Prelude.{◌==◌}
use Rattle.std.specs.declared.option.Option.{Option}
use Rattle.std.specs.declared.option.Option.TheVariants.{None, Some}
use Rattle.std.proofs.lemmas.Bool.{eqb-true, eq-eqb, cases_lt}
use Rattle.ng_base.specs.declared.ids.ItemId.{ItemId}
use Rattle.ng_base.specs.declared.ids.NodeId.{NodeId}
use Rattle.ng_machine.specs.declared.body.Lane.{Lane}
use Rattle.ng_machine.specs.declared.item.Item.{Item}
use Rattle.ng_machine.specs.Words.{Has}
use Rattle.ng_machine.specs.World.{node_id}
use Rattle.ng_machine.specs.Body.{is_at, lane_of, share_lane}
use Rattle.ng_machine.specs.Run.{RunState, Taken}
use Rattle.ng_machine.specs.Orderly.{IsTaken, TakenBeside, MayTake}
use Rattle.ng_machine.proofs.Standing.{to_filter, of_any, to_any}
use Rattle.ng_machine.proofs.NodeLists.{item_same, node_same}
use Rattle.ng_queue.specs.declared.entry.Entry.{Entry}
use Rattle.ng_queue.specs.declared.entry.Entry.TheVariants.{Waiting, Out}
use Rattle.ng_queue.specs.Queue.{mark_of, head, hold_of, hold_from, hold_beside, hold_unless, out_count, writer_out, lane_out, readers_in, same_hook, AllWait, waiting_items}
use Rattle.ng_queue.specs.Queues.{list_at, ready_of, ready_unless}
use Rattle.ng_queue.specs.declared.entry.Hold.{Hold}
use Rattle.ng_queue.specs.tie.Tie.{is_out, at, entries, IsSorted}
use Rattle.ng_queue.specs.tie.TieLaws.{LeastIsNext}
use Rattle.ng_queue.proofs.tie.SortedItems.{sorted_filter, sorted_least}
use Rattle.ng_queue.proofs.tie.OfQueues.{at_node}

writer_taken : (x : Item) (w : Option ItemId) (b : Bool) → cond b (Some x.id) w ≡ None → (w ≡ None) × (b ≡ false)
writer_taken x w true e = absurd (cc)
writer_taken x w false e = (e, refl)

writer_cond : (t : List Taken) (x : Item) (xs : List Item) (b : Bool) → writer_out (cond b (Out (mark_of x)) (Waiting x) ∷ entries t xs) ≡ None → (writer_out (entries t xs) ≡ None) × (b ≡ true → x.writer ≡ false)
writer_cond t x xs false e = (e, λ z. absurd (cc))
writer_cond t x xs true e = let k = writer_taken x (writer_out (entries t xs)) x.writer e in (k.0, λ z. k.1)

pub no_writer : (t : List Taken) (xs : List Item) (q : Item) → writer_out (entries t xs) ≡ None → Has q xs → is_out q.id.0 t ≡ true → q.writer ≡ false
no_writer t [] q e h k = absurd h
no_writer t (x ∷ xs) q e (inl is) k = subst (λ (y : Item). y.writer ≡ false) (sym is) ((writer_cond t x xs (is_out x.id.0 t) e).1 (subst (λ (y : Item). is_out y.id.0 t ≡ true) is k))
no_writer t (x ∷ xs) q e (inr h) k = no_writer t xs q (writer_cond t x xs (is_out x.id.0 t) e).0 h k

lane_cond : (t : List Taken) (lane : Option Lane) (x : Item) (xs : List Item) (b : Bool) → lane_out lane (cond b (Out (mark_of x)) (Waiting x) ∷ entries t xs) ≡ None → (lane_out lane (entries t xs) ≡ None) × (b ≡ true → share_lane (lane_of x.body) lane ≡ false)
lane_cond t lane x xs false e = (e, λ z. absurd (cc))
lane_cond t lane x xs true e = let k = writer_taken x (lane_out lane (entries t xs)) (share_lane (lane_of x.body) lane) e in (k.0, λ z. k.1)

pub no_lane : (t : List Taken) (lane : Option Lane) (xs : List Item) (q : Item) → lane_out lane (entries t xs) ≡ None → Has q xs → is_out q.id.0 t ≡ true → share_lane (lane_of q.body) lane ≡ false
no_lane t lane [] q e h k = absurd h
no_lane t lane (x ∷ xs) q e (inl is) k = subst (λ (y : Item). share_lane (lane_of y.body) lane ≡ false) (sym is) ((lane_cond t lane x xs (is_out x.id.0 t) e).1 (subst (λ (y : Item). is_out y.id.0 t ≡ true) is k))
no_lane t lane (x ∷ xs) q e (inr h) k = no_lane t lane xs q (lane_cond t lane x xs (is_out x.id.0 t) e).0 h k

out_cond : (t : List Taken) (x : Item) (xs : List Item) (b : Bool) → out_count (cond b (Out (mark_of x)) (Waiting x) ∷ entries t xs) ≡ 0 → (out_count (entries t xs) ≡ 0) × (b ≡ false)
out_cond t x xs false e = (e, refl)
out_cond t x xs true e = absurd (omega arith)

pub no_out : (t : List Taken) (xs : List Item) (q : Item) → out_count (entries t xs) ≡ 0 → Has q xs → is_out q.id.0 t ≡ false
no_out t [] q e h = absurd h
no_out t (x ∷ xs) q e (inl is) = subst (λ (y : Item). is_out y.id.0 t ≡ false) (sym is) (out_cond t x xs (is_out x.id.0 t) e).1
no_out t (x ∷ xs) q e (inr h) = no_out t xs q (out_cond t x xs (is_out x.id.0 t) e).0 h

-- the head waits, and is the least that does
head_cond : (t : List Taken) (x p : Item) (xs : List Item) (b : Bool) → is_out x.id.0 t ≡ b → head (cond b (Out (mark_of x)) (Waiting x) ∷ entries t xs) ≡ Some p → (head (entries t xs) ≡ Some p × (b ≡ true)) ⊎ ((p ≡ x) × (b ≡ false))
head_cond t x p xs true i e = inl (e, refl)
head_cond t x p xs false i e = let z : x ≡ p = cc in inr (sym z, refl)

pub head_has : (t : List Taken) (xs : List Item) (p : Item) → head (entries t xs) ≡ Some p → Has p xs × (is_out p.id.0 t ≡ false)
head_has t [] p e = absurd (cc)
head_has t (x ∷ xs) p e = ⊎_elim
    (λ (k : head (entries t xs) ≡ Some p × (is_out x.id.0 t ≡ true)). let m = head_has t xs p k.0 in (inr m.0, m.1))
    (λ (k : (p ≡ x) × (is_out x.id.0 t ≡ false)). (inl k.0, subst (λ (y : Item). is_out y.id.0 t ≡ false) (sym k.0) k.1))
    (head_cond t x p xs (is_out x.id.0 t) refl e)

pub head_least : (t : List Taken) (low : ℕ) (xs : List Item) (p q : Item) → IsSorted low xs → head (entries t xs) ≡ Some p → Has q xs → is_out q.id.0 t ≡ false → p.id.0 ≤ q.id.0
head_least t low [] p q s e h k = absurd h
head_least t low (x ∷ xs) p q s e h k = ⊎_elim
    (λ (m : head (entries t xs) ≡ Some p × (is_out x.id.0 t ≡ true)). ⊎_elim
    (λ (w : q ≡ x). let z : true ≡ false = sym m.1 ∙ ap (λ (y : Item). is_out y.id.0 t) (sym w) ∙ k in absurd (cc))
    (λ (w : Has q xs). head_least t (x.id.0 + 1) xs p q s.1 m.0 w k)
    h)
    (λ (m : (p ≡ x) × (is_out x.id.0 t ≡ false)). let le = sorted_least x.id.0 (x ∷ xs) q (omega arith, s.1) h in let same = ap (λ (y : Item). y.id.0) m.0 in omega arith)
    (head_cond t x p xs (is_out x.id.0 t) refl e)

-- MAY BE TAKEN, FROM THE QUEUE

readers_none : (n : ℕ) → readers_in n ≡ None → n ≡ 0
readers_none zero e = refl
readers_none (suc n) e = absurd (cc)

same_none : (o : Option ItemId) → same_hook o ≡ None → o ≡ None
same_none None e = refl
same_none (Some id) e = absurd (cc)

-- beside no writer
beside_is : (writer : Bool) (lane : Option Lane) (es : List Entry) → hold_beside writer lane es ≡ cond writer (readers_in (out_count es)) (same_hook (lane_out lane es))
beside_is true lane es = refl
beside_is false lane es = refl

unless_none : (w : Option ItemId) (writer : Bool) (lane : Option Lane) (es : List Entry) → hold_unless w writer lane es ≡ None → (w ≡ None) × (cond writer (readers_in (out_count es)) (same_hook (lane_out lane es)) ≡ None)
unless_none None writer lane es e = (refl, sym (beside_is writer lane es) ∙ e)
unless_none (Some id) writer lane es e = absurd (cc)

pub out_taken : (t : List Taken) (id : ItemId) → is_out id.0 t ≡ true → IsTaken t id
out_taken t id e = let x = of_any (λ (y : Taken). y.id.0 == id.0) t e in (x.0, x.1, item_same x.0.id id (eqb-true _ _ x.2))

pub taken_out : (t : List Taken) (id : ItemId) → IsTaken t id → is_out id.0 t ≡ true
taken_out t id x = to_any (λ (y : Taken). y.id.0 == id.0) x.0 t x.1 (eq-eqb _ _ (ap (λ (i : ItemId). i.0) x.2))

untaken_not : (b : Bool) → (b ≡ true → ⊥) → b ≡ false
untaken_not true h = absurd (h refl)
untaken_not false h = refl

-- the rule, for the head of a queue of pending items xs
rule_parts : (t : List Taken) (xs : List Item) (p : Item) → hold_of (entries t xs) ≡ None → head (entries t xs) ≡ Some p
    → (writer_out (entries t xs) ≡ None) × (cond p.writer (readers_in (out_count (entries t xs))) (same_hook (lane_out (lane_of p.body) (entries t xs))) ≡ None)
rule_parts t xs p free is = unless_none (writer_out (entries t xs)) p.writer (lane_of p.body) (entries t xs) (ap (λ (o : Option Item). hold_from o (entries t xs)) (sym is) ∙ free)

alone_rule : (t : List Taken) (xs : List Item) (p q : Item) (b : Bool) → p.writer ≡ b → cond b (readers_in (out_count (entries t xs))) (same_hook (lane_out (lane_of p.body) (entries t xs))) ≡ None → Has q xs → is_out q.id.0 t ≡ true
    → (p.writer ≡ false) × (share_lane (lane_of q.body) (lane_of p.body) ≡ false)
alone_rule t xs p q true e rule h k = absurd (true≢false (sym k ∙ no_out t xs q (readers_none (out_count (entries t xs)) rule) h))
alone_rule t xs p q false e rule h k = (e, no_lane t (lane_of p.body) xs q (same_none (lane_out (lane_of p.body) (entries t xs)) rule) h k)

pub ready_may : (a : RunState) (n : ℕ) (p : Item) → IsSorted 0 a.world.pending → hold_of (entries a.taken (at n a.world.pending)) ≡ None → head (entries a.taken (at n a.world.pending)) ≡ Some p → MayTake a p × (p.to.0 ≡ n)
ready_may a n p s free is =
    let has = head_has a.taken (at n a.world.pending) p is in
    let mine = at_node n p a.world.pending has.0 in
    let parts = rule_parts a.taken (at n a.world.pending) p free is in
    let inside : (q : Item) → Has q a.world.pending → q.to ≡ p.to → Has q (at n a.world.pending) = λ q h e.
    (to_filter (is_at (node_id n)) q a.world.pending h (eq-eqb _ _ (ap (λ (i : NodeId). i.0) e ∙ mine.1))) in
    let beside : (q : Item) → TakenBeside a p q → (p.writer ≡ false) × (share_lane (lane_of q.body) (lane_of p.body) ≡ false) = λ q b.
    (alone_rule a.taken (at n a.world.pending) p q p.writer refl parts.1 (inside q b.pending b.same_node) (taken_out a.taken q.id b.taken)) in (
      record {
        pending = mine.0;
        untaken = λ x. true≢false (sym (taken_out a.taken p.id x) ∙ has.1);
        first = λ q h e lt. out_taken a.taken q.id (taken_unless (is_out q.id.0 a.taken) (λ u.
            (let le = head_least a.taken 0 (at n a.world.pending) p q (sorted_filter (is_at (node_id n)) 0 a.world.pending s) is (inside q h e) u in absurd (omega arith))));
        no_writer = λ q b. no_writer a.taken (at n a.world.pending) q parts.0 (inside q b.pending b.same_node) (taken_out a.taken q.id b.taken);
        alone = λ q b. (beside q b).0;
        other_lanes = λ q b. (beside q b).1;
      },
      mine.1,
    )
  where
    taken_unless : (b : Bool) → (b ≡ false → ⊥) → b ≡ true
    taken_unless true h = refl
    taken_unless false h = absurd (h refl)

-- THE QUEUE, FROM MAY BE TAKEN

writers_step : (t : List Taken) (x : Item) (xs : List Item) (b : Bool) → (b ≡ true → x.writer ≡ false) → writer_out (entries t xs) ≡ None → writer_out (cond b (Out (mark_of x)) (Waiting x) ∷ entries t xs) ≡ None
writers_step t x xs false h more = more
writers_step t x xs true h more = ap (λ (w : Bool). cond w (Some x.id) (writer_out (entries t xs))) (h refl) ∙ more

lanes_step : (t : List Taken) (lane : Option Lane) (x : Item) (xs : List Item) (b : Bool) → (b ≡ true → share_lane (lane_of x.body) lane ≡ false) → lane_out lane (entries t xs) ≡ None → lane_out lane (cond b (Out (mark_of x)) (Waiting x) ∷ entries t xs) ≡ None
lanes_step t lane x xs false h more = more
lanes_step t lane x xs true h more = ap (λ (w : Bool). cond w (Some x.id) (lane_out lane (entries t xs))) (h refl) ∙ more

pub taken_not : (q : Item) (b : Bool) → (b ≡ true → ⊥) → b ≡ false
taken_not q true h = absurd (h refl)
taken_not q false h = refl

all_writers : (t : List Taken) (xs : List Item) → ((q : Item) → Has q xs → is_out q.id.0 t ≡ true → q.writer ≡ false) → writer_out (entries t xs) ≡ None
all_writers t [] h = refl
all_writers t (x ∷ xs) h = writers_step t x xs (is_out x.id.0 t) (λ e. h x (inl refl) e) (all_writers t xs (λ q k. h q (inr k)))

all_lanes : (t : List Taken) (lane : Option Lane) (xs : List Item) → ((q : Item) → Has q xs → is_out q.id.0 t ≡ true → share_lane (lane_of q.body) lane ≡ false) → lane_out lane (entries t xs) ≡ None
all_lanes t lane [] h = refl
all_lanes t lane (x ∷ xs) h = lanes_step t lane x xs (is_out x.id.0 t) (λ e. h x (inl refl) e) (all_lanes t lane xs (λ q k. h q (inr k)))

pub all_in : (t : List Taken) (xs : List Item) → ((q : Item) → Has q xs → is_out q.id.0 t ≡ false) → out_count (entries t xs) ≡ 0
all_in t [] h = refl
all_in t (x ∷ xs) h = ap (λ (b : Bool). out_count (cond b (Out (mark_of x)) (Waiting x) ∷ entries t xs)) (h x (inl refl)) ∙ all_in t xs (λ q k. h q (inr k))

pub all_wait : (t : List Taken) (xs : List Item) → ((q : Item) → Has q xs → is_out q.id.0 t ≡ false) → AllWait (entries t xs)
all_wait t [] h = tt
all_wait t (x ∷ xs) h = subst (λ (b : Bool). AllWait (cond b (Out (mark_of x)) (Waiting x) ∷ entries t xs)) (sym (h x (inl refl))) (all_wait t xs (λ q k. h q (inr k)))

pub waiting_all : (t : List Taken) (xs : List Item) → ((q : Item) → Has q xs → is_out q.id.0 t ≡ false) → waiting_items (entries t xs) ≡ xs
waiting_all t [] h = refl
waiting_all t (x ∷ xs) h = ap (λ (b : Bool). waiting_items (cond b (Out (mark_of x)) (Waiting x) ∷ entries t xs)) (h x (inl refl)) ∙ ap (λ (l : List Item). x ∷ l) (waiting_all t xs (λ q k. h q (inr k)))

head_step : (t : List Taken) (low : ℕ) (x q : Item) (xs : List Item) (b : Bool) → is_out x.id.0 t ≡ b → IsSorted low (x ∷ xs) → Has q (x ∷ xs) → is_out q.id.0 t ≡ false → (b ≡ false → q.id.0 ≤ x.id.0) → (Has q xs → head (entries t xs) ≡ Some q) → head (cond b (Out (mark_of x)) (Waiting x) ∷ entries t xs) ≡ Some q
head_step t low x q xs true e s (inl is) u le more = let z : true ≡ false = sym e ∙ ap (λ (y : Item). is_out y.id.0 t) (sym is) ∙ u in absurd (cc)
head_step t low x q xs true e s (inr h) u le more = more h
head_step t low x q xs false e s (inl is) u le more = ap (λ (y : Item). Some y) (sym is)
head_step t low x q xs false e s (inr h) u le more = let lt = sorted_least (x.id.0 + 1) xs q s.1 h in let k = le refl in absurd (omega arith)

head_may : (t : List Taken) (low : ℕ) (xs : List Item) (q : Item) → IsSorted low xs → Has q xs → is_out q.id.0 t ≡ false → ((x : Item) → Has x xs → is_out x.id.0 t ≡ false → q.id.0 ≤ x.id.0) → head (entries t xs) ≡ Some q
head_may t low [] q s h u le = absurd h
head_may t low (x ∷ xs) q s h u le = head_step t low x q xs (is_out x.id.0 t) refl s h u (λ e. le x (inl refl) e) (λ k. head_may t (x.id.0 + 1) xs q s.1 k u (λ y m. le y (inr m)))

rule_of : (p : Item) (es : List Entry) (b : Bool) → (b ≡ true → out_count es ≡ 0) → (b ≡ false → lane_out (lane_of p.body) es ≡ None) → cond b (readers_in (out_count es)) (same_hook (lane_out (lane_of p.body) es)) ≡ None
rule_of p es true w r = ap readers_in (w refl)
rule_of p es false w r = ap same_hook (r refl)

-- by the numbers that are out
least_untaken : (a : RunState) (p x : Item) → MayTake a p → Has x a.world.pending → x.to ≡ p.to → is_out x.id.0 a.taken ≡ false → p.id.0 ≤ x.id.0
least_untaken a p x M h e u = ⊎_elim
    (λ (lt : x.id.0 < p.id.0). absurd (true≢false (sym (taken_out a.taken x.id (M.first x h e lt)) ∙ u)))
    (λ (le : p.id.0 ≤ x.id.0). le)
    (cases_lt x.id.0 p.id.0)

pub may_ready : (a : RunState) (p : Item) → IsSorted 0 a.world.pending → MayTake a p → ready_of (entries a.taken (at p.to.0 a.world.pending)) ≡ Some p.id.0
may_ready a p s M =
    let h : Has p (at p.to.0 a.world.pending) = to_filter (is_at (node_id p.to.0)) p a.world.pending M.pending (eq-eqb _ _ refl) in
    let untaken : is_out p.id.0 a.taken ≡ false = taken_not p (is_out p.id.0 a.taken) (λ k. M.untaken (out_taken a.taken p.id k)) in
    let node : (q : Item) → Has q (at p.to.0 a.world.pending) → Has q a.world.pending × (q.to ≡ p.to) = λ q k. (let g = at_node p.to.0 q a.world.pending k in (g.0, node_same q.to p.to g.1)) in
    let first : head (entries a.taken (at p.to.0 a.world.pending)) ≡ Some p = head_may a.taken 0 (at p.to.0 a.world.pending) p (sorted_filter (is_at (node_id p.to.0)) 0 a.world.pending s) h untaken
    (λ x k u. least_untaken a p x M (node x k).0 (node x k).1 u) in
    let beside : (q : Item) → Has q (at p.to.0 a.world.pending) → is_out q.id.0 a.taken ≡ true → TakenBeside a p q = λ q k u. (record { pending = (node q k).0; same_node = (node q k).1; taken = out_taken a.taken q.id u }) in
    let none : writer_out (entries a.taken (at p.to.0 a.world.pending)) ≡ None = all_writers a.taken (at p.to.0 a.world.pending) (λ q k u. M.no_writer q (beside q k u)) in
    let rule : cond p.writer (readers_in (out_count (entries a.taken (at p.to.0 a.world.pending)))) (same_hook (lane_out (lane_of p.body) (entries a.taken (at p.to.0 a.world.pending)))) ≡ None = rule_of p (entries a.taken (at p.to.0 a.world.pending)) p.writer
    (λ w. all_in a.taken (at p.to.0 a.world.pending) (λ q k. taken_not q (is_out q.id.0 a.taken) (λ u. true≢false (sym w ∙ M.alone q (beside q k u)))))
    (λ r. all_lanes a.taken (lane_of p.body) (at p.to.0 a.world.pending) (λ q k u. M.other_lanes q (beside q k u))) in
    let free : hold_of (entries a.taken (at p.to.0 a.world.pending)) ≡ None =
    ap (λ (o : Option Item). hold_from o (entries a.taken (at p.to.0 a.world.pending))) first ∙ ap (λ (w : Option ItemId). hold_unless w p.writer (lane_of p.body) (entries a.taken (at p.to.0 a.world.pending))) none ∙ beside_is p.writer (lane_of p.body) (entries a.taken (at p.to.0 a.world.pending)) ∙ rule in
    ap (λ (o : Option Hold). ready_unless o (head (entries a.taken (at p.to.0 a.world.pending)))) free ∙ ap (λ (o : Option Item). ready_unless None o) first

-- THE LEAST HEAD

ready_free : (h : Option Hold) (o : Option Item) (id : ℕ) → ready_unless h o ≡ Some id → h ≡ None
ready_free None o id e = refl
ready_free (Some why) o id e = absurd (cc)

none_some : (id : ℕ) → None ≡ Some id → ⊥
none_some id e = absurd (cc)

some_same : (a b : ℕ) → Some a ≡ Some b → a ≡ b
some_same a b e = cc

pub least_is_next : LeastIsNext
least_is_next qs a T s = (
  λ n item L is.
      let free : hold_of (entries a.taken (at n a.world.pending)) ≡ None = ap hold_of (sym (T n)) ∙ ready_free (hold_of (list_at qs n)) (head (list_at qs n)) L.id L.is_ready in
      let first : head (entries a.taken (at n a.world.pending)) ≡ Some item = ap head (sym (T n)) ∙ is in
      let may = ready_may a n item s free first in
      let id : L.id ≡ item.id.0 = some_same L.id item.id.0 (sym L.is_ready ∙ ap (λ (o : Option Hold). ready_unless o (head (list_at qs n))) (ready_free (hold_of (list_at qs n)) (head (list_at qs n)) L.id L.is_ready) ∙ ap (ready_unless None) is) in
      (record { may = may.0; least = λ other M. subst (λ (k : ℕ). k ≤ other.id.0) id (L.least other.to.0 other.id.0 (ap ready_of (T other.to.0) ∙ may_ready a other s M)) }, may.1),
  λ none item M. none_some item.id.0 (sym (none item.to.0) ∙ ap ready_of (T item.to.0) ∙ may_ready a item s M),
)
