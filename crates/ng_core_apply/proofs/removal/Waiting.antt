-- What waits for a node whose item is taken alone, and how it may go once the item is done.
use Rattle.std.proofs.Common.{◌≡◌, ◌≢◌, inl, inr, ℕ, ◌+◌, ◌<◌, ◌≤◌, ◌^◌, List, [], ◌∷◌, ◌++◌, flat_map, length, length-append, Bool, true, false, not, cond, refl, sym, ap, ◌∙◌, ⊎_elim, arith, true≢false}
use Rattle.std.specs.Prelude.{◌==◌, ◌&&◌, filter, vec_len, vec_capacity}
use Rattle.std.proofs.lemmas.List.{append-nil, append_assoc}
use Rattle.std.proofs.lemmas.Bool.{cases_eq, eq-eqb, ne_eqb, eqb-true}
use Rattle.std.specs.declared.option.Option.{Option}
use Rattle.std.specs.declared.option.Option.TheVariants.{None, Some}
use Rattle.ng_base.specs.declared.ids.ItemId.{ItemId}
use Rattle.ng_base.specs.declared.ids.LinkId.{LinkId}
use Rattle.ng_base.specs.declared.ids.NodeId.{NodeId}
use Rattle.ng_base.specs.declared.ids.Stamp.{Stamp}
use Rattle.ng_machine.specs.declared.body.Body.{Body}
use Rattle.ng_machine.specs.declared.body.Body.TheVariants.{Leave}
use Rattle.ng_machine.specs.declared.item.Item.{Item}
use Rattle.ng_machine.specs.Body.{is_at, is_writer}
use Rattle.ng_machine.specs.Change.{Accepts, Change, accept_at, change, items_of}
use Rattle.ng_machine.specs.Retire.{aftermath}
use Rattle.ng_machine.specs.LowRun.{IsLow}
use Rattle.ng_machine.specs.Run.{RunState, Taken, is_of}
use Rattle.ng_machine.specs.State.{State as NodeState}
use Rattle.ng_machine.specs.Words.{Has}
use Rattle.ng_machine.specs.World.{NodeRecord, World, item_id, kind_at, node_at, node_in, state_of}
use Rattle.ng_machine.proofs.Standing.{in_pushed, of_filter, to_filter}
use Rattle.ng_queue.specs.pending.Holds.{IsOutIn, NoneOut, done_from, in_world}
use Rattle.ng_queue.specs.declared.entry.Entry.TheVariants.{Waiting, Out}
use Rattle.ng_queue.specs.Queue.{mark_of, waiting_items}
use Rattle.ng_queue.specs.Queues.{list_at, spare_at}
use Rattle.ng_core_apply.specs.removal.Drops.{MayGo, undoes}
use Rattle.ng_core_apply.specs.removal.Removals.{IsAlone}
use Rattle.ng_core_state.specs.step.Steps.{world_at}
use Rattle.ng_queue.proofs.tally.NumberLemmas.{fewer_numbers}
use Rattle.ng_core_state.specs.step.Applied.{ComesOut}
use Rattle.ng_machine.specs.story.Work.{removed_state}
use Rattle.ng_queue.specs.tally.Tally.{HasNumbers}
use Rattle.ng_queue.specs.tie.Tie.{at, entries, is_out, without}
use Rattle.ng_queue.specs.tie.TieLaws.{one}
use Rattle.ng_queue.proofs.tie.OfQueues.{filter_append, untaken_other}
use Rattle.ng_queue.proofs.tie.Heads.{out_taken}
use Rattle.ng_core_state.specs.declared.state.State.{State}
use Rattle.ng_core_state.specs.Stands.{Stands}

-- what waits is what isn't out
waiting_of : (t : List Taken) (xs : List Item) → waiting_items (entries t xs) ≡ filter (λ q. not (is_out q.id.0 t)) xs
waiting_of t [] = refl
waiting_of t (x ∷ xs) = by (is_out x.id.0 t) (waiting_of t xs)
  where
    by : (b : Bool) → waiting_items (entries t xs) ≡ filter (λ q. not (is_out q.id.0 t)) xs → waiting_items (cond b (Out (mark_of x)) (Waiting x) ∷ entries t xs) ≡ cond (not b) (x ∷ filter (λ q. not (is_out q.id.0 t)) xs) (filter (λ q. not (is_out q.id.0 t)) xs)
    by true more = more
    by false more = ap (λ (l : List Item). x ∷ l) more

both : (f g : Item → Bool) (xs : List Item) → filter f (filter g xs) ≡ filter (λ q. g q && f q) xs
both f g [] = refl
both f g (x ∷ xs) = by (g x) (both f g xs)
  where
    by : (a : Bool) → filter f (filter g xs) ≡ filter (λ q. g q && f q) xs → filter f (cond a (x ∷ filter g xs) (filter g xs)) ≡ cond (a && f x) (x ∷ filter (λ q. g q && f q) xs) (filter (λ q. g q && f q) xs)
    by true more = ap (λ (l : List Item). cond (f x) (x ∷ l) l) more
    by false more = more

same_filter : (f g : Item → Bool) (xs : List Item) → ((q : Item) → Has q xs → f q ≡ g q) → filter f xs ≡ filter g xs
same_filter f g [] e = refl
same_filter f g (x ∷ xs) e =
    ap (λ (b : Bool). cond b (x ∷ filter f xs) (filter f xs)) (e x (inl refl)) ∙ ap (λ (l : List Item). cond (g x) (x ∷ l) l) (same_filter f g xs (λ q h. e q (inr h)))

-- the tests of an item that is pending
test_same : (a : RunState) (item q : Item) → is_out item.id.0 a.taken ≡ true → IsAlone a item → Has q a.world.pending
    → (is_at item.to q && not (is_out q.id.0 a.taken)) ≡ (not (q.id.0 == item.id.0) && is_at item.to q)
test_same a item q out alone h = ⊎_elim
    (λ (e : q.id.0 ≡ item.id.0). by_same (is_at item.to q) (is_out q.id.0 a.taken) (q.id.0 == item.id.0) (ap (λ (k : ℕ). is_out k a.taken) e ∙ out) (eq-eqb q.id.0 item.id.0 e))
    (λ (d : q.id.0 ≢ item.id.0). by_other (is_at item.to q) (is_out q.id.0 a.taken) (q.id.0 == item.id.0) (ne_eqb q.id.0 item.id.0 d)
    (λ here. sym (untaken_other q.id.0 item.id.0 a.taken (λ e. d (sym e)))
    ∙ alone q (to_filter (λ (x : Item). not (x.id.0 == item.id.0)) q a.world.pending h (ap not (ne_eqb q.id.0 item.id.0 d))) (eqb-true q.to.0 item.to.0 here)))
    (cases_eq q.id.0 item.id.0)
  where
    by_same : (here out same : Bool) → out ≡ true → same ≡ true → (here && not out) ≡ (not same && here)
    by_same true true true e f = refl
    by_same false true true e f = refl
    by_same here false same e f = absurd (true≢false (sym e))
    by_same here true false e f = absurd (true≢false (sym f))

    by_other : (here out same : Bool) → same ≡ false → (here ≡ true → out ≡ false) → (here && not out) ≡ (not same && here)
    by_other false out false e f = refl
    by_other true out false e f = ap not (f refl)
    by_other here out true e f = absurd (true≢false e)

-- what waits beside a taken item waits for its node once it is done
pub waiting_beside : {B : Type 0} (s : State B) (a : RunState) (item : Item) → Stands s a → IsOutIn a item → IsAlone a item → waiting_items (list_at s.pending.queues.lists item.to.0) ≡ items_of (world_at a item) item.to
waiting_beside s a item S o alone =
    ap waiting_items (S.items.tied item.to.0)
    ∙ waiting_of a.taken (at item.to.0 a.world.pending)
    ∙ both (λ (q : Item). not (is_out q.id.0 a.taken)) (is_at item.to) a.world.pending
    ∙ same_filter _ _ a.world.pending (λ q h. test_same a item q o.1 alone h)
    ∙ sym (both (is_at item.to) (λ (q : Item). not (q.id.0 == item.id.0)) a.world.pending)

-- AN ITEM IS DONE, AND ITS NODE MAY GO

fewer : (f : Item → Bool) (xs : List Item) → length (filter f xs) ≤ length xs
fewer f [] = omega arith
fewer f (x ∷ xs) = by (f x) (fewer f xs)
  where
    by : (b : Bool) → length (filter f xs) ≤ length xs → length (cond b (x ∷ filter f xs) (filter f xs)) ≤ length (x ∷ xs)
    by true le = omega arith
    by false le = omega arith

pub few_wait : (a : RunState) (item : Item) → IsLow a.world → length (items_of (world_at a item) item.to) < 2 ^ 50
few_wait a item low =
    let one = fewer (is_at item.to) (without item.id.0 a.world.pending) in
    let two = fewer (λ (q : Item). not (q.id.0 == item.id.0)) a.world.pending in
    let few = low.settled in
    omega arith

-- what waits for the node in a later world: at most one item more, of which nothing follows
pub record WaitsMore (w v : World) (at : NodeId) : Type 0 where
  pub extra : List Item
  pub items : items_of v at ≡ items_of w at ++ extra
  pub quiet : flat_map aftermath extra ≡ []
  pub none : (n : ℕ) → undoes extra n ≡ 0
  pub few : length extra ≤ 1

pub waits_same : (w v : World) (at : NodeId) → items_of v at ≡ items_of w at → WaitsMore w v at
waits_same w v at e = record { extra = []; items = e ∙ sym (append-nil (items_of w at)); quiet = refl; none = λ n. refl; few = omega arith }

undoes_both : (xs ys : List Item) (n : ℕ) → undoes (xs ++ ys) n ≡ undoes xs n + undoes ys n
undoes_both [] ys n = omega arith
undoes_both (x ∷ xs) ys n = let more = undoes_both xs ys n in omega arith

flat_both : (xs ys : List Item) → flat_map aftermath (xs ++ ys) ≡ flat_map aftermath xs ++ flat_map aftermath ys
flat_both [] ys = refl
flat_both (x ∷ xs) ys = ap (λ (l : List Change). aftermath x ++ l) (flat_both xs ys) ∙ sym (append_assoc (aftermath x) (flat_map aftermath xs) (flat_map aftermath ys))

pub same_follows : (w v : World) (at : NodeId) → WaitsMore w v at → flat_map aftermath (items_of v at) ≡ flat_map aftermath (items_of w at)
same_follows w v at M =
    ap (flat_map aftermath) M.items ∙ flat_both (items_of w at) M.extra ∙ ap (λ (l : List Change). flat_map aftermath (items_of w at) ++ l) M.quiet ∙ append-nil (flat_map aftermath (items_of w at))

pub may_go : {B : Type 0} (s t : State B) (a : RunState) (item : Item) (v : World) → Stands s a → IsOutIn a item → IsAlone a item → Stands t (in_world (done_from a item) v)
    → WaitsMore (world_at a item) v item.to → NoneOut (in_world (done_from a item) v) item.to.0
    → ((m : ℕ) → m < length s.pending.queues.lists → undoes (waiting_items (list_at s.pending.queues.lists item.to.0)) m ≤ spare_at t.pending.queues.spares m)
    → vec_len t.told + (length (waiting_items (list_at s.pending.queues.lists item.to.0)) + 1) ≤ vec_capacity t.told
    → length t.pending.queues.lists ≡ length s.pending.queues.lists → HasNumbers (2 ^ 50 + 1) t.pending.tally → IsLow a.world → MayGo t item.to (in_world (done_from a item) v)
may_go s t a item v S o alone T more none room told lists has low =
    let e = waiting_beside s a item S o alone in
    let few = few_wait a item low in
    let one = more.few in
    let len : length (items_of v item.to) ≡ length (items_of (world_at a item) item.to) + length more.extra =
    ap (λ (l : List Item). length l) more.items ∙ length-append (items_of (world_at a item) item.to) more.extra in
    record {
      stands = T;
      none = none;
      room = λ m lt.
          let r = room m (omega arith) in
          let f = ap (λ (l : List Item). undoes l m) e in
          let g : undoes (items_of v item.to) m ≡ undoes (items_of (world_at a item) item.to) m + undoes more.extra m = ap (λ (l : List Item). undoes l m) more.items ∙ undoes_both (items_of (world_at a item) item.to) more.extra m in
          let z = more.none m in
          omega arith;
      told = let f = ap (λ (l : List Item). length l) e in omega arith;
      numbers = fewer_numbers (length (items_of v item.to)) (2 ^ 50 + 1) t.pending.tally (omega arith) has;
    }

-- A PEER IS ASKED TO TAKE ITS END AWAY

one_more : (b : Bool) (x : Item) → flat_map aftermath (x ∷ []) ≡ [] → ((n : ℕ) → undoes (x ∷ []) n ≡ 0) → (flat_map aftermath (cond b (x ∷ []) []) ≡ []) × ((n : ℕ) → undoes (cond b (x ∷ []) []) n ≡ 0) × (length (cond b (x ∷ []) []) ≤ 1)
one_more true x quiet none = (quiet, none, omega arith)
one_more false x quiet none = (refl, λ n. refl, omega arith)

pub waits_leave : (w : World) (by at to : NodeId) (stamp : Stamp) (hook : List ℕ) (link : LinkId) → WaitsMore w (change by stamp w (Accepts to (Leave hook link) None)) at
waits_leave w by at to stamp hook link = go (node_at w to)
  where
    go : (o : Option NodeRecord) → WaitsMore w (accept_at w to o (Leave hook link) None stamp) at
    go None = waits_same w w at refl
    go (Some node) =
        let x : Item = record { id = item_id w.next_item; to = to; body = Leave hook link; writer = is_writer (kind_at node) (Leave hook link); tag = None; stamp = stamp } in
        let m = one_more (is_at at x) x refl (λ n. refl) in
        record { extra = cond (is_at at x) (x ∷ []) []; items = filter_append (is_at at) w.pending (x ∷ []); quiet = m.0; none = m.1; few = m.2 }

pub nodes_accepted : (w : World) (by to : NodeId) (stamp : Stamp) (body : Body) (tag : Option ℕ) → (change by stamp w (Accepts to body tag)).nodes ≡ w.nodes
nodes_accepted w by to stamp body tag = go (node_at w to)
  where
    go : (o : Option NodeRecord) → (accept_at w to o body tag stamp).nodes ≡ w.nodes
    go None = refl
    go (Some node) = refl

-- a number that wasn't given yet is not taken
not_given : (taken : List Taken) (n : ℕ) → ((x : Taken) → Has x taken → x.id.0 < n) → is_out n taken ≡ false
not_given taken n below = by (is_out n taken) (λ e. let t = out_taken taken (item_id n) e in let lt = below t.0 t.1 in let same = ap (λ (i : ItemId). i.0) t.2 in omega arith)
  where
    by : (b : Bool) → (b ≡ true → ⊥) → b ≡ false
    by true never = absurd (never refl)
    by false never = refl

pub alone_accepted : (a : RunState) (n : ℕ) (by to : NodeId) (stamp : Stamp) (body : Body) (tag : Option ℕ) → ((x : Taken) → Has x a.taken → x.id.0 < a.world.next_item) → NoneOut a n → NoneOut (in_world a (change by stamp a.world (Accepts to body tag))) n
alone_accepted a n by to stamp body tag old none = go (node_at a.world to)
  where
    go : (o : Option NodeRecord) → NoneOut (in_world a (accept_at a.world to o body tag stamp)) n
    go None = none
    go (Some node) = λ q h here. ⊎_elim
        (λ (was : Has q a.world.pending). none q was here)
        (λ (e : q ≡ record { id = item_id a.world.next_item; to = to; body = body; writer = is_writer (kind_at node) body; tag = tag; stamp = stamp }).
        ap (λ (x : Item). is_out x.id.0 a.taken) e ∙ not_given a.taken a.world.next_item old)
        (in_pushed q _ a.world.pending h)

-- of what is taken besides a done item no number is the next
pub old_beside : {B : Type 0} (s : State B) (a : RunState) (item : Item) → Stands s a → (x : Taken) → Has x (done_from a item).taken → x.id.0 < (done_from a item).world.next_item
old_beside s a item S x h = S.items.old x (of_filter (λ (t : Taken). not (is_of (item_id item.id.0) t)) x a.taken h).0

-- one place is spent at the peer, where there is one more
pub room_left : (m peer before mid after und : ℕ) → (m ≡ peer → 1 ≤ before) → before + und ≤ mid → mid ≤ after + one (m == peer) → und ≤ after
room_left m peer before mid after und more room spent = ⊎_elim
    (λ (e : m ≡ peer). let le = more e in let b : one (m == peer) ≡ 1 = ap one (eq-eqb m peer e) in omega arith)
    (λ (d : m ≢ peer). let b : one (m == peer) ≡ 0 = ap one (ne_eqb m peer d) in omega arith)
    (cases_eq m peer)

-- WHAT COMES OUT

pub nothing_comes : {B : Type 0} (state : B → NodeState) (s : State B) (a : RunState) (at : NodeId) (node now : NodeRecord) → Stands s a → node_in s.graph.nodes at ≡ Some now → ComesOut state (Some node) (node_at a.world at) None
nothing_comes state s a at node now S here =
    sym (ap (λ (o : Option NodeRecord). removed_state (Some node) o) (sym (ap (λ (l : List (Option NodeRecord)). node_in l at) S.graph.nodes) ∙ here))

pub box_comes : {B : Type 0} (state : B → NodeState) (s : State B) (a : RunState) (at : NodeId) (node : NodeRecord) (box : B) → Stands s a → node_in s.graph.nodes at ≡ None → state box ≡ state_of node → ComesOut state (Some node) (node_at a.world at) (Some box)
box_comes state s a at node box S gone is =
    ap Some is ∙ sym (ap (λ (o : Option NodeRecord). removed_state (Some node) o) (sym (ap (λ (l : List (Option NodeRecord)). node_in l at) S.graph.nodes) ∙ gone))
