-- The tie of the queues to the one list, after each change.
use Rattle.std.proofs.Common.{◌≡◌, ℕ, ◌<◌, List, [], ◌∷◌, ◌++◌, length, map, set, Bool, true, false, not, ◌||◌, cond, refl, sym, ap, ◌∙◌, subst, inl, inr, ⊎_elim, arith}
use Rattle.std.proofs.lemmas.List.{map-append, append-nil, get_or-set_same, get_or-set_other}
use Rattle.std.proofs.lemmas.Bool.{cases_eq}
use Rattle.std.specs.Prelude.{eqb, filter, ◌≢◌}
use Rattle.ng_base.specs.declared.ids.ItemId.{ItemId}
use Rattle.ng_machine.specs.declared.item.Item.{Item}
use Rattle.ng_machine.specs.Words.{Has}
use Rattle.ng_machine.specs.World.{node_id}
use Rattle.ng_machine.specs.Body.{is_at}
use Rattle.ng_machine.specs.Run.{Taken}
use Rattle.ng_machine.proofs.Standing.{of_filter}
use Rattle.ng_queue.specs.declared.entry.Entry.{Entry}
use Rattle.ng_queue.specs.declared.entry.Entry.TheVariants.{Waiting, Out}
use Rattle.ng_queue.specs.Queue.{mark_of, id_of, take_out, put_back, is_other}
use Rattle.ng_queue.specs.Queues.{list_at}
use Rattle.ng_queue.specs.tie.Tie.{is_out, taking, untaken, at, elsewhere, without, entry_of, entries, Tied, IsSorted}
use Rattle.ng_queue.specs.tie.TieLaws.{PushTies, TakeTies, BackTies, DoneTies, PurgeTies}
use Rattle.ng_queue.proofs.tie.SortedItems.{sorted_one}

pub taken_push : (id other seat : ℕ) (t : List Taken) → is_out id (t ++ taking other seat ∷ []) ≡ (is_out id t || eqb other id)
taken_push id other seat [] = grind arith
taken_push id other seat (x ∷ t) = let more = taken_push id other seat t in grind arith

untaken_cond : (id other : ℕ) (x : Taken) (t : List Taken) (b : Bool) → eqb x.id.0 other ≡ b → other ≢ id → is_out id (untaken other t) ≡ is_out id t → is_out id (cond (not b) (x ∷ untaken other t) (untaken other t)) ≡ (eqb x.id.0 id || is_out id t)
untaken_cond id other x t true e apart more = let q : eqb x.id.0 id ≡ false = grind arith in more ∙ ap (λ (c : Bool). c || is_out id t) (sym q)
untaken_cond id other x t false e apart more = ap (λ (c : Bool). eqb x.id.0 id || c) more

-- another id than the one that was given back or applied
pub untaken_other : (id other : ℕ) (t : List Taken) → other ≢ id → is_out id (untaken other t) ≡ is_out id t
untaken_other id other [] apart = refl
untaken_other id other (x ∷ t) apart = untaken_cond id other x t (eqb x.id.0 other) refl apart (untaken_other id other t apart)

untaken_cond_same : (id : ℕ) (x : Taken) (t : List Taken) (b : Bool) → eqb x.id.0 id ≡ b → is_out id (untaken id t) ≡ false → is_out id (cond (not b) (x ∷ untaken id t) (untaken id t)) ≡ false
untaken_cond_same id x t true e more = more
untaken_cond_same id x t false e more = ap (λ (c : Bool). c || is_out id (untaken id t)) e ∙ more

pub untaken_same : (id : ℕ) (t : List Taken) → is_out id (untaken id t) ≡ false
untaken_same id [] = refl
untaken_same id (x ∷ t) = untaken_cond_same id x t (eqb x.id.0 id) refl (untaken_same id t)

-- ENTRIES OF ONE NODE

-- the taken ones change, and the entries by f
pub entries_change : (f : Entry → Entry) (t u : List Taken) (xs : List Item) → ((q : Item) → Has q xs → f (entry_of t q) ≡ entry_of u q) → map f (entries t xs) ≡ entries u xs
entries_change f t u [] h = refl
entries_change f t u (x ∷ xs) h = let more = entries_change f t u xs (λ q k. h q (inr k)) in let here = h x (inl refl) in ap (λ (e : Entry). e ∷ map f (entries t xs)) here ∙ ap (λ (es : List Entry). entry_of u x ∷ es) more

pub entries_same : (t u : List Taken) (xs : List Item) → ((q : Item) → Has q xs → is_out q.id.0 t ≡ is_out q.id.0 u) → entries t xs ≡ entries u xs
entries_same t u [] h = refl
entries_same t u (x ∷ xs) h =
    let more = entries_same t u xs (λ q k. h q (inr k)) in
    ap (λ (b : Bool). cond b (Out (mark_of x)) (Waiting x) ∷ entries t xs) (h x (inl refl)) ∙ ap (λ (es : List Entry). entry_of u x ∷ es) more

takes_cond : (id : ItemId) (q : Item) (b c : Bool) → eqb q.id.0 id.0 ≡ c → take_out id (cond b (Out (mark_of q)) (Waiting q)) ≡ cond (b || eqb id.0 q.id.0) (Out (mark_of q)) (Waiting q)
takes_cond id q true c e = refl
takes_cond id q false true e = let s : eqb id.0 q.id.0 ≡ true = grind arith in ap (λ (d : Bool). cond d (Out (mark_of q)) (Waiting q)) (e ∙ sym s)
takes_cond id q false false e = let s : eqb id.0 q.id.0 ≡ false = grind arith in ap (λ (d : Bool). cond d (Out (mark_of q)) (Waiting q)) (e ∙ sym s)

takes_one : (id : ItemId) (seat : ℕ) (t : List Taken) (q : Item) → take_out id (entry_of t q) ≡ entry_of (t ++ taking id.0 seat ∷ []) q
takes_one id seat t q = takes_cond id q (is_out q.id.0 t) (eqb q.id.0 id.0) refl ∙ ap (λ (b : Bool). cond b (Out (mark_of q)) (Waiting q)) (sym (taken_push q.id.0 id.0 seat t))

pub entries_take : (id : ItemId) (seat : ℕ) (t : List Taken) (xs : List Item) → map (take_out id) (entries t xs) ≡ entries (t ++ taking id.0 seat ∷ []) xs
entries_take id seat t xs = entries_change (take_out id) t (t ++ taking id.0 seat ∷ []) xs (λ q h. takes_one id seat t q)

-- p comes back, and q is p
gives_this : (p q : Item) (b : Bool) → eqb q.id.0 p.id.0 ≡ true → p ≡ q → put_back p (cond b (Out (mark_of q)) (Waiting q)) ≡ Waiting q
gives_this p q true e is = ap (λ (d : Bool). cond d (Waiting p) (Out (mark_of q))) e ∙ ap (λ (x : Item). Waiting x) is
gives_this p q false e is = refl

gives_that : (p q : Item) (b : Bool) → eqb q.id.0 p.id.0 ≡ false → put_back p (cond b (Out (mark_of q)) (Waiting q)) ≡ cond b (Out (mark_of q)) (Waiting q)
gives_that p q true e = ap (λ (d : Bool). cond d (Waiting p) (Out (mark_of q))) e
gives_that p q false e = refl

gives_cond : (p q : Item) (t : List Taken) (c : Bool) → eqb q.id.0 p.id.0 ≡ c → (p.id.0 ≡ q.id.0 → p ≡ q) → put_back p (entry_of t q) ≡ entry_of (untaken p.id.0 t) q
gives_cond p q t true f one =
    let same : p.id.0 ≡ q.id.0 = grind arith in
    let none : is_out q.id.0 (untaken p.id.0 t) ≡ false = subst (λ (n : ℕ). is_out n (untaken p.id.0 t) ≡ false) same (untaken_same p.id.0 t) in
    gives_this p q (is_out q.id.0 t) f (one same) ∙ ap (λ (d : Bool). cond d (Out (mark_of q)) (Waiting q)) (sym none)
gives_cond p q t false f one =
    let apart : p.id.0 ≢ q.id.0 = λ (e : p.id.0 ≡ q.id.0). grind arith in
    gives_that p q (is_out q.id.0 t) f ∙ ap (λ (d : Bool). cond d (Out (mark_of q)) (Waiting q)) (sym (untaken_other q.id.0 p.id.0 t apart))

pub entries_give : (p : Item) (t : List Taken) (xs : List Item) → ((q : Item) → Has q xs → p.id.0 ≡ q.id.0 → p ≡ q) → map (put_back p) (entries t xs) ≡ entries (untaken p.id.0 t) xs
entries_give p t xs one = entries_change (put_back p) t (untaken p.id.0 t) xs (λ q h. gives_cond p q t (eqb q.id.0 p.id.0) refl (one q h))

id_is : (t : List Taken) (q : Item) (b : Bool) → id_of (cond b (Out (mark_of q)) (Waiting q)) ≡ q.id
id_is t q true = refl
id_is t q false = refl

done_cond : (id : ItemId) (t : List Taken) (x : Item) (xs : List Item) (b : Bool) → eqb x.id.0 id.0 ≡ b → filter (is_other id) (entries t xs) ≡ entries t (without id.0 xs) → cond (not b) (entry_of t x ∷ filter (is_other id) (entries t xs)) (filter (is_other id) (entries t xs)) ≡ entries t (cond (not b) (x ∷ without id.0 xs) (without id.0 xs))
done_cond id t x xs true e more = more
done_cond id t x xs false e more = ap (λ (es : List Entry). entry_of t x ∷ es) more

entries_without : (id : ItemId) (t : List Taken) (xs : List Item) → filter (is_other id) (entries t xs) ≡ entries t (without id.0 xs)
entries_without id t [] = refl
entries_without id t (x ∷ xs) =
    ap (λ (n : ItemId). cond (not (eqb n.0 id.0)) (entry_of t x ∷ filter (is_other id) (entries t xs)) (filter (is_other id) (entries t xs))) (id_is t x (is_out x.id.0 t))
    ∙ done_cond id t x xs (eqb x.id.0 id.0) refl (entries_without id t xs)

without_apart : (id : ℕ) (q : Item) (xs : List Item) → Has q (without id xs) → id ≢ q.id.0
without_apart id q xs h = let f : not (eqb q.id.0 id) ≡ true = (of_filter (λ (p : Item). not (eqb p.id.0 id)) q xs h).1 in λ (e : id ≡ q.id.0). grind arith

pub entries_done : (id : ItemId) (t : List Taken) (xs : List Item) → filter (is_other id) (entries t xs) ≡ entries (untaken id.0 t) (without id.0 xs)
entries_done id t xs = entries_without id t xs ∙ entries_same t (untaken id.0 t) (without id.0 xs) (λ q h. sym (untaken_other q.id.0 id.0 t (without_apart id.0 q xs h)))

-- FILTERS

filter_swap_cond : (f g : Item → Bool) (x : Item) (xs : List Item) (b c : Bool) → f x ≡ b → g x ≡ c → filter f (filter g xs) ≡ filter g (filter f xs) → filter f (cond c (x ∷ filter g xs) (filter g xs)) ≡ filter g (cond b (x ∷ filter f xs) (filter f xs))
filter_swap_cond f g x xs true true e d more = ap (λ (k : Bool). cond k (x ∷ filter f (filter g xs)) (filter f (filter g xs))) e ∙ ap (λ (l : List Item). x ∷ l) more ∙ sym (ap (λ (k : Bool). cond k (x ∷ filter g (filter f xs)) (filter g (filter f xs))) d)
filter_swap_cond f g x xs true false e d more = more ∙ sym (ap (λ (k : Bool). cond k (x ∷ filter g (filter f xs)) (filter g (filter f xs))) d)
filter_swap_cond f g x xs false true e d more = ap (λ (k : Bool). cond k (x ∷ filter f (filter g xs)) (filter f (filter g xs))) e ∙ more
filter_swap_cond f g x xs false false e d more = more

pub filter_swap : (f g : Item → Bool) (xs : List Item) → filter f (filter g xs) ≡ filter g (filter f xs)
filter_swap f g [] = refl
filter_swap f g (x ∷ xs) = filter_swap_cond f g x xs (f x) (g x) refl refl (filter_swap f g xs)

filter_all_cond : (f : Item → Bool) (x : Item) (xs : List Item) → f x ≡ true → filter f xs ≡ xs → filter f (x ∷ xs) ≡ x ∷ xs
filter_all_cond f x xs e more = ap (λ (k : Bool). cond k (x ∷ filter f xs) (filter f xs)) e ∙ ap (λ (l : List Item). x ∷ l) more

pub filter_all : (f : Item → Bool) (xs : List Item) → ((q : Item) → Has q xs → f q ≡ true) → filter f xs ≡ xs
filter_all f [] h = refl
filter_all f (x ∷ xs) h = filter_all_cond f x xs (h x (inl refl)) (filter_all f xs (λ q k. h q (inr k)))

pub filter_none : (f : Item → Bool) (xs : List Item) → ((q : Item) → Has q xs → f q ≡ false) → filter f xs ≡ []
filter_none f [] h = refl
filter_none f (x ∷ xs) h = ap (λ (k : Bool). cond k (x ∷ filter f xs) (filter f xs)) (h x (inl refl)) ∙ filter_none f xs (λ q k. h q (inr k))

filter_push_cond : (f : Item → Bool) (x : Item) (xs ys : List Item) (b : Bool) → f x ≡ b → filter f (xs ++ ys) ≡ filter f xs ++ filter f ys → cond b (x ∷ filter f (xs ++ ys)) (filter f (xs ++ ys)) ≡ cond b (x ∷ filter f xs) (filter f xs) ++ filter f ys
filter_push_cond f x xs ys true e more = ap (λ (l : List Item). x ∷ l) more
filter_push_cond f x xs ys false e more = more

pub filter_append : (f : Item → Bool) (xs ys : List Item) → filter f (xs ++ ys) ≡ filter f xs ++ filter f ys
filter_append f [] ys = refl
filter_append f (x ∷ xs) ys = filter_push_cond f x xs ys (f x) refl (filter_append f xs ys)

-- ALL NODES

pub at_node : (n : ℕ) (q : Item) (ps : List Item) → Has q (at n ps) → Has q ps × (q.to.0 ≡ n)
at_node n q ps h = let f = of_filter (is_at (node_id n)) q ps h in (f.0, let e : eqb q.to.0 n ≡ true = f.1 in grind arith)

-- one queue is set, and the others stay
tied_set : (qs : List (List Entry)) (m : ℕ) (es : List Entry) (want : ℕ → List Entry) → m < length qs → es ≡ want m → ((n : ℕ) → n ≢ m → list_at qs n ≡ want n) → (n : ℕ) → list_at (set qs m es) n ≡ want n
tied_set qs m es want lt here others n = ⊎_elim
    (λ (e : n ≡ m). subst (λ (k : ℕ). list_at (set qs m es) k ≡ want k) (sym e) (get_or-set_same qs m es [] lt ∙ here))
    (λ (d : n ≢ m). get_or-set_other qs m n es [] d ∙ others n d)
    (cases_eq n m)

at_other : (n : ℕ) (p : Item) → n ≢ p.to.0 → at n (p ∷ []) ≡ []
at_other n p d = let e : eqb p.to.0 n ≡ false = grind arith in ap (λ (b : Bool). cond b (p ∷ []) []) e

pub tied_push : (qs : List (List Entry)) (t : List Taken) (ps : List Item) (p : Item) → Tied qs t ps → p.to.0 < length qs → is_out p.id.0 t ≡ false → Tied (set qs p.to.0 (list_at qs p.to.0 ++ Waiting p ∷ [])) t (ps ++ p ∷ [])
tied_push qs t ps p T lt fresh = tied_set qs p.to.0 (list_at qs p.to.0 ++ Waiting p ∷ []) (λ (n : ℕ). entries t (at n (ps ++ p ∷ []))) lt
    (let e : eqb p.to.0 p.to.0 ≡ true = grind arith in
    let one : at p.to.0 (p ∷ []) ≡ p ∷ [] = ap (λ (b : Bool). cond b (p ∷ []) []) e in
    let last : entries t (p ∷ []) ≡ Waiting p ∷ [] = ap (λ (b : Bool). cond b (Out (mark_of p)) (Waiting p) ∷ []) fresh in
    ap (λ (es : List Entry). es ++ Waiting p ∷ []) (T p.to.0) ∙ ap (λ (es : List Entry). entries t (at p.to.0 ps) ++ es) (sym last) ∙ sym (map-append (entry_of t) (at p.to.0 ps) (p ∷ []))
    ∙ ap (λ (l : List Item). entries t (at p.to.0 ps ++ l)) (sym one) ∙ ap (entries t) (sym (filter_append (is_at (node_id p.to.0)) ps (p ∷ []))))
    (λ n d. T n ∙ ap (entries t) (sym (append-nil (at n ps)) ∙ ap (λ (l : List Item). at n ps ++ l) (sym (at_other n p d)) ∙ sym (filter_append (is_at (node_id n)) ps (p ∷ []))))

or_false : (b : Bool) → (b || false) ≡ b
or_false true = refl
or_false false = refl

-- two items of different nodes have different ids
apart_of : (ps : List Item) (p q : Item) (low : ℕ) → IsSorted low ps → Has p ps → Has q ps → (q.to.0 ≡ p.to.0 → ⊥) → eqb p.id.0 q.id.0 ≡ false
apart_of ps p q low s hp hq d = ⊎_elim
    (λ (e : p.id.0 ≡ q.id.0). absurd (d (sym (ap (λ (x : Item). x.to.0) (sorted_one low ps p q s hp hq e)))))
    (λ (n : p.id.0 ≢ q.id.0). let z : eqb p.id.0 q.id.0 ≡ false = grind arith in z)
    (cases_eq p.id.0 q.id.0)

pub tied_take : (qs : List (List Entry)) (t : List Taken) (ps : List Item) (p : Item) (seat low : ℕ) → Tied qs t ps → p.to.0 < length qs → IsSorted low ps → Has p ps → Tied (set qs p.to.0 (map (take_out p.id) (list_at qs p.to.0))) (t ++ taking p.id.0 seat ∷ []) ps
tied_take qs t ps p seat low T lt s h = tied_set qs p.to.0 (map (take_out p.id) (list_at qs p.to.0)) (λ (n : ℕ). entries (t ++ taking p.id.0 seat ∷ []) (at n ps)) lt
    (ap (map (take_out p.id)) (T p.to.0) ∙ entries_take p.id seat t (at p.to.0 ps))
    (λ n d. T n ∙ entries_same t (t ++ taking p.id.0 seat ∷ []) (at n ps) (λ q k.
    let g = at_node n q ps k in
    let apart : eqb p.id.0 q.id.0 ≡ false = apart_of ps p q low s h g.0 (λ (e : q.to.0 ≡ p.to.0). d (sym g.1 ∙ e)) in
    sym (taken_push q.id.0 p.id.0 seat t ∙ ap (λ (b : Bool). is_out q.id.0 t || b) apart ∙ or_false (is_out q.id.0 t))))

pub tied_give : (qs : List (List Entry)) (t : List Taken) (ps : List Item) (p : Item) (low : ℕ) → Tied qs t ps → p.to.0 < length qs → IsSorted low ps → Has p ps → Tied (set qs p.to.0 (map (put_back p) (list_at qs p.to.0))) (untaken p.id.0 t) ps
tied_give qs t ps p low T lt s h = tied_set qs p.to.0 (map (put_back p) (list_at qs p.to.0)) (λ (n : ℕ). entries (untaken p.id.0 t) (at n ps)) lt
    (ap (map (put_back p)) (T p.to.0) ∙ entries_give p t (at p.to.0 ps) (λ q k e. sorted_one low ps p q s h (at_node p.to.0 q ps k).0 e))
    (λ n d. T n ∙ entries_same t (untaken p.id.0 t) (at n ps) (λ q k.
    let g = at_node n q ps k in
    let apart : eqb p.id.0 q.id.0 ≡ false = apart_of ps p q low s h g.0 (λ (e : q.to.0 ≡ p.to.0). d (sym g.1 ∙ e)) in
    sym (untaken_other q.id.0 p.id.0 t (λ (e : p.id.0 ≡ q.id.0). grind arith))))

pub tied_done : (qs : List (List Entry)) (t : List Taken) (ps : List Item) (p : Item) (low : ℕ) → Tied qs t ps → p.to.0 < length qs → IsSorted low ps → Has p ps → Tied (set qs p.to.0 (filter (is_other p.id) (list_at qs p.to.0))) (untaken p.id.0 t) (without p.id.0 ps)
tied_done qs t ps p low T lt s h = tied_set qs p.to.0 (filter (is_other p.id) (list_at qs p.to.0)) (λ (n : ℕ). entries (untaken p.id.0 t) (at n (without p.id.0 ps))) lt
    (ap (filter (is_other p.id)) (T p.to.0) ∙ entries_done p.id t (at p.to.0 ps) ∙ ap (entries (untaken p.id.0 t)) (sym (filter_swap (is_at (node_id p.to.0)) (λ (x : Item). not (eqb x.id.0 p.id.0)) ps)))
    (λ n d.
    let all : without p.id.0 (at n ps) ≡ at n ps = filter_all (λ (x : Item). not (eqb x.id.0 p.id.0)) (at n ps) (λ q k.
    let g = at_node n q ps k in
    let apart : eqb p.id.0 q.id.0 ≡ false = apart_of ps p q low s h g.0 (λ (e : q.to.0 ≡ p.to.0). d (sym g.1 ∙ e)) in grind arith) in
    T n ∙ ap (entries t) (sym all) ∙ sym (entries_without p.id t (at n ps)) ∙ entries_done p.id t (at n ps) ∙ ap (entries (untaken p.id.0 t)) (sym (filter_swap (is_at (node_id n)) (λ (x : Item). not (eqb x.id.0 p.id.0)) ps)))

pub tied_purge : (qs : List (List Entry)) (t : List Taken) (ps : List Item) (m : ℕ) → Tied qs t ps → m < length qs → Tied (set qs m []) t (elsewhere m ps)
tied_purge qs t ps m T lt = tied_set qs m [] (λ (n : ℕ). entries t (at n (elsewhere m ps))) lt
    (ap (entries t) (sym (filter_none (is_at (node_id m)) (elsewhere m ps) (λ q k. let f : not (is_at (node_id m) q) ≡ true = (of_filter (λ (x : Item). not (is_at (node_id m) x)) q ps k).1 in grind arith))))
    (λ n d.
    let all : elsewhere m (at n ps) ≡ at n ps = filter_all (λ (x : Item). not (is_at (node_id m) x)) (at n ps) (λ q k. let g = at_node n q ps k in let e : q.to.0 ≡ n = g.1 in grind arith) in
    T n ∙ ap (entries t) (sym all ∙ sym (filter_swap (is_at (node_id n)) (λ (x : Item). not (is_at (node_id m) x)) ps)))

-- THE LAWS

pub push_ties : PushTies
push_ties lists taken pending item T lt fresh = tied_push lists taken pending item T lt fresh

pub take_ties : TakeTies
take_ties lists taken pending item seat I = tied_take lists taken pending item seat 0 I.tied I.known I.sorted I.is_pending

pub back_ties : BackTies
back_ties lists taken pending item I = tied_give lists taken pending item 0 I.tied I.known I.sorted I.is_pending

pub done_ties : DoneTies
done_ties lists taken pending item I = tied_done lists taken pending item 0 I.tied I.known I.sorted I.is_pending

pub purge_ties : PurgeTies
purge_ties lists taken pending n T lt = tied_purge lists taken pending n T lt
