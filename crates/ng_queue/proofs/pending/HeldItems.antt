-- What is held after each call.
use Rattle.std.proofs.Common.{◌≡◌, ◌⊎◌, inl, inr, ℕ, zero, suc, ◌+◌, ◌<◌, ◌≤◌, List, [], ◌∷◌, ◌++◌, length, map, set, replicate, Bool, true, false, not, cond, refl, sym, ap, ◌∙◌, subst, ⊎_elim, arith, true≢false, length-append, length-set}
use Rattle.std.proofs.lemmas.Bool.{eq-eqb, eqb-true, eqb-false}
use Rattle.std.proofs.lemmas.List.{get_or-set_same, set-set}
use Rattle.std.specs.Prelude.{◌==◌, ◌||◌, filter, nat_lt, nat_le}
use Rattle.std.specs.declared.option.Option.{Option}
use Rattle.std.specs.declared.option.Option.TheVariants.{Some}
use Rattle.ng_base.specs.declared.cause.Cause.TheVariants.{Spool}
use Rattle.ng_base.specs.declared.ids.ItemId.{ItemId}
use Rattle.ng_base.specs.declared.ids.NodeId.{NodeId}
use Rattle.ng_base.specs.declared.ids.Stamp.{Stamp}
use Rattle.ng_base.specs.declared.kind.Kind.{Kind}
use Rattle.ng_machine.specs.declared.body.Body.{Body}
use Rattle.ng_machine.specs.declared.item.Item.{Item}
use Rattle.ng_machine.specs.Words.{Has}
use Rattle.ng_machine.specs.Body.{is_writer, is_at}
use Rattle.ng_machine.specs.World.{World, item_id, node_id}
use Rattle.ng_machine.specs.Change.{accept, frames, most_frames, items_of, retire}
use Rattle.ng_machine.specs.Effect.{take_out, finish, drop_hook_gone}
use Rattle.ng_machine.specs.Run.{RunState, Taken, beginning}
use Rattle.ng_machine.proofs.Standing.{in_pushed, of_filter, to_filter}
use Rattle.ng_queue.specs.declared.entry.Entry.{Entry}
use Rattle.ng_queue.specs.declared.entry.Entry.TheVariants.{Waiting, Out}
use Rattle.ng_queue.specs.Queue.{head, id_of, mark_of, is_other, put_back, IsBelow, IsOut, IsOutAs, AllWait, waiting_items}
use Rattle.ng_queue.specs.Queue.{take_out as take_entry}
use Rattle.ng_queue.specs.Queues.{QueueLists, IsLeast, NoneReady, list_at}
use Rattle.ng_machine.specs.story.Story.{IsNext}
use Rattle.ng_machine.specs.Orderly.{MayTake}
use Rattle.ng_queue.specs.tie.Tie.{is_out, taking, untaken, at, elsewhere, entries, Tied}
use Rattle.ng_queue.proofs.tie.SortedItems.{sorted_push, sorted_filter, sorted_one}
use Rattle.ng_queue.proofs.tie.OfQueues.{at_node, taken_push, tied_push, tied_take, tied_give, tied_done, tied_purge}
use Rattle.ng_queue.proofs.tie.Heads.{least_is_next, out_taken, all_wait, waiting_all}
use Rattle.ng_queue.proofs.tie.OnceTaken.{once_push, once_untaken, untaken_out, untaken_length}
use Rattle.ng_queue.specs.declared.tally.tally.Tally.{Tally}
use Rattle.ng_queue.specs.tally.Tally.{tally_of, accepted, done_with, without_hook, without_node, left_with, lost_by, Counts, HasCounted, HasNumbers}
use Rattle.ng_queue.proofs.tally.CountsOfWorld.{counts_are_of_world}
use Rattle.ng_queue.proofs.tally.LowCounts.{counts_are_low}
use Rattle.ng_queue.specs.declared.pending.pending.Pending.{Pending}
use Rattle.ng_queue.specs.pending.Holds.{Holds, HoldsItems, IsOutIn, NoneOut, in_world, with_taken, with_untaken, done_from, dropped_from, spooled}

-- TAKEN

pub next_held : (p : Pending) (a : RunState) (n : ℕ) (item : Item) → HoldsItems p a → IsLeast p.queues.lists n → head (list_at p.queues.lists n) ≡ Some item → IsNext a item × (item.to.0 ≡ n)
next_held p a n item H L e = (least_is_next p.queues.lists a H.tied H.sorted).0 n item L e

pub none_held : (p : Pending) (a : RunState) (item : Item) → HoldsItems p a → NoneReady p.queues.lists → MayTake a item → ⊥
none_held p a item H none M = (least_is_next p.queues.lists a H.tied H.sorted).1 none item M

same_length : (xs ys : List (List Entry)) (n : ℕ) (es : List Entry) → ys ≡ set xs n es → length ys ≡ length xs
same_length xs ys n es e = ap (λ (l : List (List Entry)). length l) e ∙ length-set xs n es

longer : (n k m : ℕ) → m ≡ k → n < k → n < m
longer n k m e lt = omega arith

pub taken_held : (p q : Pending) (a : RunState) (item : Item) (seat : ℕ) → HoldsItems p a → IsNext a item
    → q.queues.lists ≡ set p.queues.lists item.to.0 (map (take_entry item.id) (list_at p.queues.lists item.to.0)) → q.tally ≡ p.tally → q.out ≡ p.out + 1
    → HoldsItems q (with_taken a item.id.0 seat)
taken_held p q a item seat H N lists tally out = record {
  sorted = H.sorted;
  below = H.below;
  old = λ x h. ⊎_elim
      (λ (k : Has x a.taken). H.old x k)
      (λ (e : x ≡ taking item.id.0 seat). let same = ap (λ (y : Taken). y.id.0) e in let lt = H.below item N.may.pending in omega arith)
      (in_pushed x (taking item.id.0 seat) a.taken h);
  once = once_push a.taken item.id.0 seat H.once (untaken_out a item N.may);
  known = λ x h. longer _ _ _ (same_length _ _ item.to.0 (map (take_entry item.id) (list_at p.queues.lists item.to.0)) lists) (H.known x h);
  tied = subst (λ (l : List (List Entry)). Tied l (a.taken ++ taking item.id.0 seat ∷ []) a.world.pending) (sym lists)
      (tied_take p.queues.lists a.taken a.world.pending item seat 0 H.tied (H.known item N.may.pending) H.sorted N.may.pending);
  tally = tally ∙ H.tally;
  out = let e = H.out in omega (arith, length-append {A = Taken});
}

-- PUT BACK

out_as : (t : List Taken) (item x : Item) (xs : List Item) (b : Bool) → is_out x.id.0 t ≡ b → (x.id.0 ≡ item.id.0 → (b ≡ true) × (x ≡ item)) → (IsOutAs (mark_of item) (entries t xs) ⊎ (x.id.0 ≡ item.id.0))
    → IsOutAs (mark_of item) (cond b (Out (mark_of x)) (Waiting x) ∷ entries t xs)
out_as t item x xs false e f (inl m) = m
out_as t item x xs false e f (inr i) = absurd (true≢false (sym (f i).0))
out_as t item x xs true e f m = by (x.id.0 == item.id.0) refl m
  where
    by : (b : Bool) → (x.id.0 == item.id.0) ≡ b → (IsOutAs (mark_of item) (entries t xs) ⊎ (x.id.0 ≡ item.id.0)) → cond b (mark_of x ≡ mark_of item) (IsOutAs (mark_of item) (entries t xs))
    by true i m = ap mark_of (f (eqb-true x.id.0 item.id.0 i)).1
    by false i (inl m) = m
    by false i (inr same) = absurd (eqb-false x.id.0 item.id.0 i same)

out_entries_as : (t : List Taken) (xs : List Item) (item : Item) → ((q : Item) → Has q xs → q.id.0 ≡ item.id.0 → q ≡ item) → Has item xs → is_out item.id.0 t ≡ true → IsOutAs (mark_of item) (entries t xs)
out_entries_as t [] item one h k = absurd h
out_entries_as t (x ∷ xs) item one (inl e) k =
    out_as t item x xs (is_out x.id.0 t) refl (λ i. (ap (λ (n : ℕ). is_out n t) i ∙ k, one x (inl refl) i)) (inr (ap (λ (y : Item). y.id.0) (sym e)))
out_entries_as t (x ∷ xs) item one (inr h) k =
    out_as t item x xs (is_out x.id.0 t) refl (λ i. (ap (λ (n : ℕ). is_out n t) i ∙ k, one x (inl refl) i)) (inl (out_entries_as t xs item (λ q m. one q (inr m)) h k))

pub marked : (p : Pending) (a : RunState) (item : Item) → HoldsItems p a → IsOutIn a item → IsOutAs (mark_of item) (list_at p.queues.lists item.to.0)
marked p a item H o =
    subst (IsOutAs (mark_of item)) (sym (H.tied item.to.0))
    (out_entries_as a.taken (at item.to.0 a.world.pending) item (λ q h e. sorted_one 0 a.world.pending q item H.sorted (at_node item.to.0 q a.world.pending h).0 o.0 e)
    (to_filter (is_at (node_id item.to.0)) item a.world.pending o.0 (eq-eqb item.to.0 item.to.0 refl)) o.1)

pub back_held : (p q : Pending) (a : RunState) (item : Item) → HoldsItems p a → IsOutIn a item
    → q.queues.lists ≡ set p.queues.lists item.to.0 (map (put_back item) (list_at p.queues.lists item.to.0)) → q.tally ≡ p.tally → q.out + 1 ≡ p.out
    → HoldsItems q (with_untaken a item.id.0)
back_held p q a item H o lists tally out = record {
  sorted = H.sorted;
  below = H.below;
  old = λ x h. H.old x (of_filter (λ (y : Taken). not (y.id.0 == item.id.0)) x a.taken h).0;
  once = once_untaken item.id.0 a.taken H.once;
  known = λ x h. longer _ _ _ (same_length _ _ item.to.0 (map (put_back item) (list_at p.queues.lists item.to.0)) lists) (H.known x h);
  tied = subst (λ (l : List (List Entry)). Tied l (untaken item.id.0 a.taken) a.world.pending) (sym lists)
      (tied_give p.queues.lists a.taken a.world.pending item 0 H.tied (H.known item o.0) H.sorted o.0);
  tally = tally ∙ H.tally;
  out = let e = H.out in let f = untaken_length item.id.0 a.taken H.once o.1 in omega arith;
}

-- DONE, OR DROPPED FOR ITS HOOK

out_at : (t : List Taken) (id : ItemId) (x : Item) (xs : List Item) (b : Bool) → is_out x.id.0 t ≡ b → (x.id.0 ≡ id.0 → b ≡ true) → (IsOut id (entries t xs) ⊎ (x.id.0 ≡ id.0)) → IsOut id (cond b (Out (mark_of x)) (Waiting x) ∷ entries t xs)
out_at t id x xs false e f (inl m) = m
out_at t id x xs false e f (inr i) = absurd (true≢false (sym (f i)))
out_at t id x xs true e f (inl m) = by (x.id.0 == id.0)
  where
    by : (b : Bool) → cond b (Unit {0}) (IsOut id (entries t xs))
    by true = tt
    by false = m
out_at t id x xs true e f (inr i) = subst (λ (b : Bool). cond b (Unit {0}) (IsOut id (entries t xs))) (sym (eq-eqb x.id.0 id.0 i)) tt

out_entries : (t : List Taken) (xs : List Item) (item : Item) → Has item xs → is_out item.id.0 t ≡ true → IsOut item.id (entries t xs)
out_entries t [] item h k = absurd h
out_entries t (x ∷ xs) item (inl e) k = out_at t item.id x xs (is_out x.id.0 t) refl (λ i. ap (λ (n : ℕ). is_out n t) i ∙ k) (inr (ap (λ (y : Item). y.id.0) (sym e)))
out_entries t (x ∷ xs) item (inr h) k = out_at t item.id x xs (is_out x.id.0 t) refl (λ i. ap (λ (n : ℕ). is_out n t) i ∙ k) (inl (out_entries t xs item h k))

pub is_out_there : (p : Pending) (a : RunState) (item : Item) → HoldsItems p a → IsOutIn a item → IsOut item.id (list_at p.queues.lists item.to.0)
is_out_there p a item H o =
    subst (IsOut item.id) (sym (H.tied item.to.0))
    (out_entries a.taken (at item.to.0 a.world.pending) item (to_filter (is_at (node_id item.to.0)) item a.world.pending o.0 (eq-eqb item.to.0 item.to.0 refl)) o.1)

pub some_out : (p : Pending) (a : RunState) (item : Item) → HoldsItems p a → IsOutIn a item → 1 ≤ p.out
some_out p a item H o = let e = H.out in let f = untaken_length item.id.0 a.taken H.once o.1 in omega arith

pub item_counts : (p : Pending) (a : RunState) (item : Item) → HoldsItems p a → IsOutIn a item → Counts p.tally item
item_counts p a item H o = subst (λ (t : Tally). Counts t item) (sym H.tally) (counts_are_low.one a.world item H.sorted o.0)

-- what is left of a taken item's tie; the world after has its counts
left_held : (p q : Pending) (a : RunState) (item : Item) (w : World) → HoldsItems p a → IsOutIn a item → w.pending ≡ (take_out a.world item.id).pending → w.next_item ≡ a.world.next_item
    → q.queues.lists ≡ set p.queues.lists item.to.0 (filter (is_other item.id) (list_at p.queues.lists item.to.0)) → q.tally ≡ tally_of w → q.out + 1 ≡ p.out
    → Holds q (tally_of w) (take_out a.world item.id).pending (untaken item.id.0 a.taken)
left_held p q a item w H o pending next lists tally out = record {
  sorted = sorted_filter (λ (x : Item). not (x.id.0 == item.id.0)) 0 a.world.pending H.sorted;
  below = λ x h. subst (λ (n : ℕ). x.id.0 < n) (sym next) (H.below x (of_filter (λ (y : Item). not (y.id.0 == item.id.0)) x a.world.pending h).0);
  old = λ x h. subst (λ (n : ℕ). x.id.0 < n) (sym next) (H.old x (of_filter (λ (y : Taken). not (y.id.0 == item.id.0)) x a.taken h).0);
  once = once_untaken item.id.0 a.taken H.once;
  known = λ x h. longer _ _ _ (same_length _ _ item.to.0 (filter (is_other item.id) (list_at p.queues.lists item.to.0)) lists) (H.known x (of_filter (λ (y : Item). not (y.id.0 == item.id.0)) x a.world.pending h).0);
  tied = subst (λ (l : List (List Entry)). Tied l (untaken item.id.0 a.taken) (take_out a.world item.id).pending) (sym lists)
      (tied_done p.queues.lists a.taken a.world.pending item 0 H.tied (H.known item o.0) H.sorted o.0);
  tally = tally;
  out = let e = H.out in let f = untaken_length item.id.0 a.taken H.once o.1 in omega arith;
}

pub done_held : (p q : Pending) (a : RunState) (item : Item) → HoldsItems p a → IsOutIn a item
    → q.queues.lists ≡ set p.queues.lists item.to.0 (filter (is_other item.id) (list_at p.queues.lists item.to.0)) → q.tally ≡ done_with p.tally item → q.out + 1 ≡ p.out
    → HoldsItems q (done_from a item)
done_held p q a item H o lists tally out =
    left_held p q a item (finish (take_out a.world item.id) item.id) H o refl refl lists
    (tally ∙ ap (λ (t : Tally). done_with t item) H.tally ∙ sym (counts_are_of_world.done a.world item H.sorted o.0)) out

pub dropped_held : (p q : Pending) (a : RunState) (item : Item) → HoldsItems p a → IsOutIn a item
    → q.queues.lists ≡ set p.queues.lists item.to.0 (filter (is_other item.id) (list_at p.queues.lists item.to.0)) → q.tally ≡ without_hook p.tally item → q.out + 1 ≡ p.out
    → HoldsItems q (dropped_from a item)
dropped_held p q a item H o lists tally out =
    left_held p q a item (drop_hook_gone (take_out a.world item.id) item.id) H o refl refl lists
    (tally ∙ ap (λ (t : Tally). without_hook t item) H.tally ∙ sym (counts_are_of_world.hook_gone a.world item H.sorted o.0)) out

-- TAKEN AND DONE AT ONCE

-- the entries that are left are the same, whether the item was taken before or not
others_taken : (id : ItemId) (es : List Entry) → filter (is_other id) (map (take_entry id) es) ≡ filter (is_other id) es
others_taken id [] = refl
others_taken id (Out m ∷ es) = ap (λ (l : List Entry). cond (is_other id (Out m)) (Out m ∷ l) l) (others_taken id es)
others_taken id (Waiting x ∷ es) = by (x.id.0 == id.0) refl (others_taken id es)
  where
    by : (b : Bool) → (x.id.0 == id.0) ≡ b → filter (is_other id) (map (take_entry id) es) ≡ filter (is_other id) es
        → filter (is_other id) (cond b (Out (mark_of x)) (Waiting x) ∷ map (take_entry id) es) ≡ cond (not b) (Waiting x ∷ filter (is_other id) es) (filter (is_other id) es)
    by true e more = ap (λ (c : Bool). cond (not c) (Out (mark_of x) ∷ filter (is_other id) (map (take_entry id) es)) (filter (is_other id) (map (take_entry id) es))) e ∙ more
    by false e more =
        ap (λ (c : Bool). cond (not c) (Waiting x ∷ filter (is_other id) (map (take_entry id) es)) (filter (is_other id) (map (take_entry id) es))) e
        ∙ ap (λ (l : List Entry). Waiting x ∷ l) more

pub out_next : (a : RunState) (item : Item) (seat : ℕ) → IsNext a item → is_out item.id.0 (with_taken a item.id.0 seat).taken ≡ true
out_next a item seat N = taken_push item.id.0 item.id.0 seat a.taken ∙ ap (λ (b : Bool). b || (item.id.0 == item.id.0)) (untaken_out a item N.may) ∙ eq-eqb item.id.0 item.id.0 refl

pub next_counts : (p : Pending) (a : RunState) (item : Item) → HoldsItems p a → IsNext a item → Counts p.tally item
next_counts p a item H N = subst (λ (t : Tally). Counts t item) (sym H.tally) (counts_are_low.one a.world item H.sorted N.may.pending)

pub served_held : (p q : Pending) (a : RunState) (item : Item) (seat : ℕ) → HoldsItems p a → IsNext a item
    → q.queues.lists ≡ set p.queues.lists item.to.0 (filter (is_other item.id) (list_at p.queues.lists item.to.0)) → q.tally ≡ done_with p.tally item → q.out ≡ p.out
    → HoldsItems q (done_from (with_taken a item.id.0 seat) item)
served_held p q a item seat H N lists tally out =
    let here = list_at p.queues.lists item.to.0 in
    let taken = set p.queues.lists item.to.0 (map (take_entry item.id) here) in
    let mid : Pending = record p { queues = record p.queues { lists = taken }; out = p.out + 1 } in
    let same : set taken item.to.0 (filter (is_other item.id) (list_at taken item.to.0)) ≡ set p.queues.lists item.to.0 (filter (is_other item.id) here) =
    ap (λ (l : List Entry). set taken item.to.0 (filter (is_other item.id) l)) (get_or-set_same p.queues.lists item.to.0 (map (take_entry item.id) here) [] (H.known item N.may.pending))
    ∙ ap (λ (l : List Entry). set taken item.to.0 l) (others_taken item.id here)
    ∙ set-set p.queues.lists item.to.0 (map (take_entry item.id) here) (filter (is_other item.id) here) in
    done_held mid q (with_taken a item.id.0 seat) item (taken_held p mid a item seat H N refl refl refl) (N.may.pending, out_next a item seat N) (lists ∙ sym same) tally (omega arith)

-- ACCEPTED

entry_id : (q : Item) (b : Bool) → id_of (cond b (Out (mark_of q)) (Waiting q)) ≡ q.id
entry_id q true = refl
entry_id q false = refl

below_entries : (t : List Taken) (n : ItemId) (xs : List Item) → ((q : Item) → Has q xs → q.id.0 < n.0) → IsBelow n (entries t xs)
below_entries t n [] h = tt
below_entries t n (x ∷ xs) h = (
  let e = entry_id x (is_out x.id.0 t) in let lt = h x (inl refl) in subst (λ (k : ItemId). k.0 < n.0) (sym e) lt,
  below_entries t n xs (λ q k. h q (inr k)),
)

-- all entries are below the next number
pub next_above : (p : Pending) (a : RunState) (n : ℕ) → HoldsItems p a → IsBelow (item_id p.tally.next_item) (list_at p.queues.lists n)
next_above p a n H =
    subst (λ (m : ℕ). IsBelow (item_id m) (list_at p.queues.lists n)) (sym (ap (λ (t : Tally). t.next_item) H.tally))
    (subst (IsBelow (item_id a.world.next_item)) (sym (H.tied n))
    (below_entries a.taken (item_id a.world.next_item) (at n a.world.pending) (λ q h. H.below q (at_node n q a.world.pending h).0)))

-- the item that is accepted
abbrev pub newcomer : ℕ → NodeId → Kind → Body → Option ℕ → Stamp → Item
newcomer n to kind body tag stamp = record { id = item_id n; to = to; body = body; writer = is_writer kind body; tag = tag; stamp = stamp }

fresh : (a : RunState) (n : ℕ) → ((t : Taken) → Has t a.taken → t.id.0 < n) → is_out n a.taken ≡ false
fresh a n old = by (is_out n a.taken) refl
  where
    by : (b : Bool) → is_out n a.taken ≡ b → is_out n a.taken ≡ false
    by true e = let x = out_taken a.taken (item_id n) e in let lt = old x.0 x.1 in let same = ap (λ (i : ItemId). i.0) x.2 in absurd (omega arith)
    by false e = e

pub accepted_held : (p q : Pending) (a : RunState) (to : NodeId) (kind : Kind) (body : Body) (tag : Option ℕ) (stamp : Stamp) (y : Item) → HoldsItems p a → to.0 < length p.queues.lists
    → y ≡ newcomer p.tally.next_item to kind body tag stamp → q.queues.lists ≡ set p.queues.lists to.0 (list_at p.queues.lists to.0 ++ Waiting y ∷ [])
    → q.tally ≡ accepted p.tally y → q.out ≡ p.out → HoldsItems q (in_world a (accept a.world to kind body tag stamp))
accepted_held p q a to kind body tag stamp y H lt is lists tally out =
    let same : y ≡ newcomer a.world.next_item to kind body tag stamp = is ∙ ap (λ (n : ℕ). newcomer n to kind body tag stamp) (ap (λ (z : Tally). z.next_item) H.tally) in
    let lists2 : q.queues.lists ≡ set p.queues.lists to.0 (list_at p.queues.lists to.0 ++ Waiting (newcomer a.world.next_item to kind body tag stamp) ∷ []) =
    lists ∙ ap (λ (z : Item). set p.queues.lists to.0 (list_at p.queues.lists to.0 ++ Waiting z ∷ [])) same in
    let length_is = same_length _ _ to.0 (list_at p.queues.lists to.0 ++ Waiting (newcomer a.world.next_item to kind body tag stamp) ∷ []) lists2 in
    record {
      sorted = sorted_push 0 a.world.pending (newcomer a.world.next_item to kind body tag stamp) H.sorted (λ x h. H.below x h) (omega arith);
      below = λ x h. ⊎_elim
          (λ (m : Has x a.world.pending). let le = H.below x m in omega arith)
          (λ (e : x ≡ newcomer a.world.next_item to kind body tag stamp). let same = ap (λ (z : Item). z.id.0) e in omega arith)
          (in_pushed x (newcomer a.world.next_item to kind body tag stamp) a.world.pending h);
      old = λ x h. let le = H.old x h in omega arith;
      once = H.once;
      known = λ x h. ⊎_elim
          (λ (m : Has x a.world.pending). longer _ _ _ length_is (H.known x m))
          (λ (e : x ≡ newcomer a.world.next_item to kind body tag stamp). longer _ _ _ length_is (subst (λ (n : ℕ). n < length p.queues.lists) (sym (ap (λ (z : Item). z.to.0) e)) lt))
          (in_pushed x (newcomer a.world.next_item to kind body tag stamp) a.world.pending h);
      tied = subst (λ (l : List (List Entry)). Tied l a.taken (a.world.pending ++ newcomer a.world.next_item to kind body tag stamp ∷ [])) (sym lists2)
          (tied_push p.queues.lists a.taken a.world.pending (newcomer a.world.next_item to kind body tag stamp) H.tied lt (fresh a a.world.next_item (λ x h. H.old x h)));
      tally = tally ∙ ap (accepted p.tally) same ∙ ap (λ (z : Tally). accepted z (newcomer a.world.next_item to kind body tag stamp)) H.tally
          ∙ sym (counts_are_of_world.accept a.world (newcomer a.world.next_item to kind body tag stamp));
      out = out ∙ H.out;
    }

-- DROPPED WITH ITS NODE

none_at : (a : RunState) (n : ℕ) → NoneOut a n → (q : Item) → Has q (at n a.world.pending) → is_out q.id.0 a.taken ≡ false
none_at a n none q h = let g = at_node n q a.world.pending h in none q g.0 g.1

pub all_wait_there : (p : Pending) (a : RunState) (n : ℕ) → HoldsItems p a → NoneOut a n → AllWait (list_at p.queues.lists n)
all_wait_there p a n H none = subst AllWait (sym (H.tied n)) (all_wait a.taken (at n a.world.pending) (none_at a n none))

pub waiting_there : (p : Pending) (a : RunState) (to : NodeId) → HoldsItems p a → NoneOut a to.0 → waiting_items (list_at p.queues.lists to.0) ≡ items_of a.world to
waiting_there p a to H none = ap waiting_items (H.tied to.0) ∙ waiting_all a.taken (at to.0 a.world.pending) (none_at a to.0 none)

pub items_count : (p : Pending) (a : RunState) (to : NodeId) (items : List Item) → HoldsItems p a → items ≡ items_of a.world to → HasCounted p.tally items
items_count p a to items H is =
    subst (λ (t : Tally). HasCounted t items) (sym H.tally) (subst (HasCounted (tally_of a.world)) (sym is) (counts_are_low.some a.world to))

apart : (n : ℕ) (q : Item) (ps : List Item) → Has q (elsewhere n ps) → Has q ps
apart n q ps h = (of_filter (λ (x : Item). not (is_at (node_id n) x)) q ps h).0

pub retired_held : (p q : Pending) (a : RunState) (to : NodeId) → HoldsItems p a → NoneOut a to.0 → to.0 < length p.queues.lists
    → q.queues.lists ≡ set p.queues.lists to.0 [] → q.tally ≡ without_node p.tally (waiting_items (list_at p.queues.lists to.0)) → q.out ≡ p.out
    → HoldsItems q (in_world a (retire a.world to))
retired_held p q a to H none lt lists tally out = record {
  sorted = sorted_filter (λ (x : Item). not (is_at (node_id to.0) x)) 0 a.world.pending H.sorted;
  below = λ x h. H.below x (apart to.0 x a.world.pending h);
  old = H.old;
  once = H.once;
  known = λ x h. longer _ _ _ (same_length _ _ to.0 [] lists) (H.known x (apart to.0 x a.world.pending h));
  tied = subst (λ (l : List (List Entry)). Tied l a.taken (elsewhere to.0 a.world.pending)) (sym lists) (tied_purge p.queues.lists a.taken a.world.pending to.0 H.tied lt);
  tally = tally ∙ ap (without_node p.tally) (waiting_there p a to H none) ∙ ap (λ (z : Tally). without_node z (items_of a.world to)) H.tally ∙ sym (counts_are_of_world.retire a.world to);
  out = out ∙ H.out;
}

pub numbers_kept : (k : ℕ) (t u : Tally) (items : List Item) → HasNumbers k t → HasCounted t items → u ≡ without_node t items → HasNumbers k u
numbers_kept k t u items N C e = subst (HasNumbers k) (sym e) (record {
  made = N.made;
  settled = let le = C.pending in let lt = N.settled in omega arith;
  applies = N.applies;
  frames = let lt = N.frames in omega arith;
  ticks = let lt = N.ticks in omega arith;
  tagged = let lt = N.tagged in omega arith;
  spool = N.spool;
})

-- room alone was made
pub same_held : (p q : Pending) (a : RunState) → HoldsItems p a → q.queues.lists ≡ p.queues.lists → q.tally ≡ p.tally → q.out ≡ p.out → HoldsItems q a
same_held p q a H lists tally out = record {
  sorted = H.sorted;
  below = H.below;
  old = H.old;
  once = H.once;
  known = λ x h. longer _ _ _ (ap (λ (l : List (List Entry)). length l) lists) (H.known x h);
  tied = subst (λ (l : List (List Entry)). Tied l a.taken a.world.pending) (sym lists) H.tied;
  tally = tally ∙ H.tally;
  out = out ∙ H.out;
}

-- numbers alone changed, and not the next item's
pub counted_held : (p q : Pending) (a : RunState) (w : World) (f : Tally → Tally) → HoldsItems p a → q.queues ≡ p.queues → q.out ≡ p.out → q.tally ≡ f p.tally
    → f (tally_of a.world) ≡ tally_of w → w.pending ≡ a.world.pending → w.next_item ≡ a.world.next_item → HoldsItems q (in_world a w)
counted_held p q a w f H queues out tally is pending next = subst (λ (l : List Item). Holds q (tally_of w) l a.taken) (sym pending) (record {
  sorted = H.sorted;
  below = λ x h. subst (λ (n : ℕ). x.id.0 < n) (sym next) (H.below x h);
  old = λ x h. subst (λ (n : ℕ). x.id.0 < n) (sym next) (H.old x h);
  once = H.once;
  known = λ x h. longer _ _ _ (ap (λ (l : QueueLists). length l.lists) queues) (H.known x h);
  tied = subst (λ (l : QueueLists). Tied l.lists a.taken a.world.pending) (sym queues) H.tied;
  tally = tally ∙ ap f H.tally ∙ is;
  out = out ∙ H.out;
})

spooled_counts : (w : World) (packet : List ℕ) (b : Bool) → (cond b (left_with (tally_of w) packet) (lost_by (tally_of w) Spool)) ≡ tally_of (spooled b w packet)
spooled_counts w packet true = refl
spooled_counts w packet false = refl

spooled_pending : (w : World) (packet : List ℕ) (b : Bool) → (spooled b w packet).pending ≡ w.pending
spooled_pending w packet true = refl
spooled_pending w packet false = refl

spooled_next : (w : World) (packet : List ℕ) (b : Bool) → (spooled b w packet).next_item ≡ w.next_item
spooled_next w packet true = refl
spooled_next w packet false = refl

-- a packet leaves, or is lost
pub spooled_held : (p q : Pending) (a : RunState) (packet : List ℕ) (b : Bool) → HoldsItems p a → q.queues ≡ p.queues → q.out ≡ p.out → q.tally ≡ cond b (left_with p.tally packet) (lost_by p.tally Spool)
    → HoldsItems q (in_world a (spooled b a.world packet))
spooled_held p q a packet b H queues out tally =
    counted_held p q a (spooled b a.world packet) (λ (t : Tally). cond b (left_with t packet) (lost_by t Spool)) H queues out tally
    (spooled_counts a.world packet b) (spooled_pending a.world packet b) (spooled_next a.world packet b)

-- PACKETS THAT WAIT

full_is : (p : Pending) (a : RunState) (b : Bool) → HoldsItems p a → nat_le most_frames p.tally.frames ≡ b → nat_lt (frames a.world) most_frames ≡ not b
full_is p a b H e = let same = ap (λ (t : Tally). t.frames) H.tally in grind (arith, same, e)

-- NOTHING YET

none_at_all : (n k : ℕ) → list_at (replicate n []) k ≡ []
none_at_all zero k = refl
none_at_all (suc n) zero = refl
none_at_all (suc n) (suc k) = none_at_all n k

pub nothing_held : (p : Pending) (w : World) (n : ℕ) → p.queues.lists ≡ replicate n [] → p.tally ≡ tally_of w → p.out ≡ 0 → w.pending ≡ [] → HoldsItems p (beginning w)
nothing_held p w n lists tally out idle = subst (λ (l : List Item). Holds p (tally_of w) l []) (sym idle) (record {
  sorted = tt;
  below = λ x h. absurd h;
  old = λ x h. absurd h;
  once = tt;
  known = λ x h. absurd h;
  tied = λ k. ap (λ (l : List (List Entry)). list_at l k) lists ∙ none_at_all n k;
  tally = tally;
  out = out;
})
