-- The numbers of a world after a change.
use Rattle.std.proofs.Common.{◌≡◌, ℕ, ◌+◌, ◌-◌, List, [], ◌∷◌, ◌++◌, length, Bool, true, false, cond, ◌==◌, refl, sym, ap, ◌∙◌, arith, length-append, true≢false}
use Rattle.ng_base.specs.declared.cause.Cause.{Cause}
use Rattle.ng_base.specs.declared.cause.Cause.TheVariants.{NodeGone, HookGone, Budget}
use Rattle.ng_base.specs.declared.ids.ItemId.{ItemId}
use Rattle.ng_base.specs.declared.ids.NodeId.{NodeId}
use Rattle.ng_machine.specs.declared.item.Item.{Item}
use Rattle.ng_machine.specs.Words.{Has, times}
use Rattle.ng_machine.specs.Body.{has_frame, has_tick, is_at}
use Rattle.ng_machine.specs.World.{World}
use Rattle.ng_machine.specs.Change.{drops_for, items_of, retire}
use Rattle.ng_machine.specs.Effect.{take_out, finish, drop_hook_gone}
use Rattle.ng_machine.specs.Run.{stop}
use Rattle.ng_machine.specs.Totals.{cause_number, dropped_for}
use Rattle.ng_machine.proofs.Counted.{times-append, times_parted}
use Rattle.ng_queue.specs.tie.Tie.{IsSorted}
use Rattle.ng_queue.specs.tie.TieLaws.{one}
use Rattle.ng_queue.proofs.tie.Leaving.{times_without, all_times}
use Rattle.ng_queue.specs.declared.tally.tally.Tally.{Tally}
use Rattle.ng_queue.specs.tally.Tally.{tally_of, is_tagged, accepted, done_with, without_hook, without_node, stopped}
use Rattle.ng_queue.specs.tally.TallyLaws.{with_item, CountsAreOfWorld}

-- A tally by the numbers that changes of items touch

abbrev pub numbered : Tally → ℕ → ℕ → ℕ → ℕ → ℕ → ℕ → ℕ → ℕ → Tally
numbered t done node_gone hook_gone budget pending frames ticks tagged =
    record t { done = done; node_gone = node_gone; hook_gone = hook_gone; budget = budget; pending = pending; frames = frames; ticks = ticks; tagged = tagged }

pub same_counts : (t : Tally) (done node_gone hook_gone budget : ℕ) {e f g h p q r s : ℕ} → e ≡ p → f ≡ q → g ≡ r → h ≡ s
    → numbered t done node_gone hook_gone budget e f g h ≡ numbered t done node_gone hook_gone budget p q r s
same_counts t done node_gone hook_gone budget {f = f} {g = g} {h = h} {p = p} {q = q} {r = r} i j k l =
    ap (λ (x : ℕ). numbered t done node_gone hook_gone budget x f g h) i
    ∙ ap (λ (x : ℕ). numbered t done node_gone hook_gone budget p x g h) j
    ∙ ap (λ (x : ℕ). numbered t done node_gone hook_gone budget p q x h) k
    ∙ ap (λ (x : ℕ). numbered t done node_gone hook_gone budget p q r x) l

same_causes : (t : Tally) (pending frames ticks tagged : ℕ) {a b c d k l m n : ℕ} → a ≡ k → b ≡ l → c ≡ m → d ≡ n
    → numbered t a b c d pending frames ticks tagged ≡ numbered t k l m n pending frames ticks tagged
same_causes t pending frames ticks tagged {b = b} {c = c} {d = d} {k = k} {l = l} {m = m} i j o p =
    ap (λ (x : ℕ). numbered t x b c d pending frames ticks tagged) i
    ∙ ap (λ (x : ℕ). numbered t k x c d pending frames ticks tagged) j
    ∙ ap (λ (x : ℕ). numbered t k l x d pending frames ticks tagged) o
    ∙ ap (λ (x : ℕ). numbered t k l m x pending frames ticks tagged) p

-- ONE ITEM MORE

one_is : (b : Bool) → one b ≡ cond b 1 0
one_is true = refl
one_is false = refl

times_push : (test : Item → Bool) (xs : List Item) (x : Item) → times test (xs ++ x ∷ []) ≡ times test xs + one (test x)
times_push test xs x = let e = times-append test xs (x ∷ []) in let o = one_is (test x) in omega arith

accept : (w : World) (item : Item) → tally_of (with_item w item) ≡ accepted (tally_of w) item
accept w item =
    same_counts (tally_of (with_item w item)) (length w.done) (dropped_for NodeGone w.dropped) (dropped_for HookGone w.dropped) (dropped_for Budget w.dropped)
    (length-append w.pending (item ∷ [])) (times_push has_frame w.pending item) (times_push has_tick w.pending item) (times_push is_tagged w.pending item)

-- ONE ITEM LESS

minus : (a b c : ℕ) → a + b ≡ c → a ≡ c - b
minus a b c e = omega arith

times_less : (test : Item → Bool) (w : World) (item : Item) → IsSorted 0 w.pending → Has item w.pending → times test (take_out w item.id).pending ≡ times test w.pending - one (test item)
times_less test w item s h = minus _ _ _ (times_without test 0 w.pending item s h)

length_less : (w : World) (item : Item) → IsSorted 0 w.pending → Has item w.pending → length (take_out w item.id).pending ≡ length w.pending - 1
length_less w item s h =
    sym (all_times (take_out w item.id).pending) ∙ times_less (λ x. true) w item s h ∙ ap (λ (n : ℕ). n - 1) (all_times w.pending)

done : (w : World) (item : Item) → IsSorted 0 w.pending → Has item w.pending → tally_of (finish (take_out w item.id) item.id) ≡ done_with (tally_of w) item
done w item s h =
    same_causes (tally_of (finish (take_out w item.id) item.id)) (length (take_out w item.id).pending) (times has_frame (take_out w item.id).pending) (times has_tick (take_out w item.id).pending) (times is_tagged (take_out w item.id).pending)
    (length-append w.done (item.id ∷ [])) refl refl refl
    ∙ same_counts (tally_of (finish (take_out w item.id) item.id)) (length w.done + 1) (dropped_for NodeGone w.dropped) (dropped_for HookGone w.dropped) (dropped_for Budget w.dropped)
    (length_less w item s h) (times_less has_frame w item s h) (times_less has_tick w item s h) (times_less is_tagged w item s h)

-- what is dropped is counted for its cause
dropped_more : (cause : Cause) (dropped more : List (ItemId × Cause)) (n : ℕ) → dropped_for cause more ≡ n → dropped_for cause (dropped ++ more) ≡ dropped_for cause dropped + n
dropped_more cause dropped more n e = let s = times-append (λ (x : ItemId × Cause). cause_number x.1 == cause_number cause) dropped more in omega arith

dropped_same : (cause : Cause) (dropped more : List (ItemId × Cause)) → dropped_for cause more ≡ 0 → dropped_for cause (dropped ++ more) ≡ dropped_for cause dropped
dropped_same cause dropped more e = let s = times-append (λ (x : ItemId × Cause). cause_number x.1 == cause_number cause) dropped more in omega arith

hook_gone : (w : World) (item : Item) → IsSorted 0 w.pending → Has item w.pending → tally_of (drop_hook_gone (take_out w item.id) item.id) ≡ without_hook (tally_of w) item
hook_gone w item s h =
    let more : List (ItemId × Cause) = (item.id, HookGone) ∷ [] in
    same_causes (tally_of (drop_hook_gone (take_out w item.id) item.id)) (length (take_out w item.id).pending) (times has_frame (take_out w item.id).pending) (times has_tick (take_out w item.id).pending) (times is_tagged (take_out w item.id).pending)
    refl (dropped_same NodeGone w.dropped ((item.id, HookGone) ∷ []) refl) (dropped_more HookGone w.dropped ((item.id, HookGone) ∷ []) 1 refl) (dropped_same Budget w.dropped ((item.id, HookGone) ∷ []) refl)
    ∙ same_counts (tally_of (drop_hook_gone (take_out w item.id) item.id)) (length w.done) (dropped_for NodeGone w.dropped) (dropped_for HookGone w.dropped + 1) (dropped_for Budget w.dropped)
    (length_less w item s h) (times_less has_frame w item s h) (times_less has_tick w item s h) (times_less is_tagged w item s h)

-- MANY ITEMS LESS

one_counted : (b : Bool) (n m : ℕ) → b ≡ true → n ≡ m → cond b 1 0 + n ≡ 1 + m
one_counted true n m e same = omega arith
one_counted false n m e same = absurd (true≢false (sym e))

none_counted : (b : Bool) (n : ℕ) → b ≡ false → n ≡ 0 → cond b 1 0 + n ≡ 0
none_counted true n e none = absurd (true≢false e)
none_counted false n e none = omega arith

drops_all : (cause other : Cause) → (cause_number cause == cause_number other) ≡ true → (items : List Item) → dropped_for other (drops_for cause items) ≡ length items
drops_all cause other same [] = refl
drops_all cause other same (x ∷ xs) =
    one_counted (cause_number cause == cause_number other) (dropped_for other (drops_for cause xs)) (length xs) same (drops_all cause other same xs) ∙ (omega arith)

drops_none : (cause other : Cause) → (cause_number cause == cause_number other) ≡ false → (items : List Item) → dropped_for other (drops_for cause items) ≡ 0
drops_none cause other apart [] = refl
drops_none cause other apart (x ∷ xs) =
    none_counted (cause_number cause == cause_number other) (dropped_for other (drops_for cause xs)) apart (drops_none cause other apart xs)

pub parted : (test : Item → Bool) (w : World) (at : NodeId) → times test (items_of w at) + times test (retire w at).pending ≡ times test w.pending
parted test w at = times_parted test (is_at at) w.pending

times_left : (test : Item → Bool) (w : World) (at : NodeId) → times test (retire w at).pending ≡ times test w.pending - times test (items_of w at)
times_left test w at = let e = parted test w at in omega arith

length_left : (w : World) (at : NodeId) → length (retire w at).pending ≡ length w.pending - length (items_of w at)
length_left w at =
    let e = parted (λ x. true) w at in
    let a = all_times (retire w at).pending in
    let b = all_times w.pending in
    let c = all_times (items_of w at) in
    omega arith

gone : (w : World) (at : NodeId) → tally_of (retire w at) ≡ without_node (tally_of w) (items_of w at)
gone w at =
    same_causes (tally_of (retire w at)) (length (retire w at).pending) (times has_frame (retire w at).pending) (times has_tick (retire w at).pending) (times is_tagged (retire w at).pending)
    refl
    (dropped_more NodeGone w.dropped (drops_for NodeGone (items_of w at)) (length (items_of w at)) (drops_all NodeGone NodeGone refl (items_of w at)))
    (dropped_same HookGone w.dropped (drops_for NodeGone (items_of w at)) (drops_none NodeGone HookGone refl (items_of w at)))
    (dropped_same Budget w.dropped (drops_for NodeGone (items_of w at)) (drops_none NodeGone Budget refl (items_of w at)))
    ∙ same_counts (tally_of (retire w at)) (length w.done) (dropped_for NodeGone w.dropped + length (items_of w at)) (dropped_for HookGone w.dropped) (dropped_for Budget w.dropped)
    (length_left w at) (times_left has_frame w at) (times_left has_tick w at) (times_left is_tagged w at)

all_stopped : (w : World) → tally_of (stop w) ≡ stopped (tally_of w)
all_stopped w =
    same_causes (tally_of (stop w)) 0 0 0 0 refl
    (dropped_same NodeGone w.dropped (drops_for Budget w.pending) (drops_none Budget NodeGone refl w.pending))
    (dropped_same HookGone w.dropped (drops_for Budget w.pending) (drops_none Budget HookGone refl w.pending))
    (dropped_more Budget w.dropped (drops_for Budget w.pending) (length w.pending) (drops_all Budget Budget refl w.pending))

pub counts_are_of_world : CountsAreOfWorld
counts_are_of_world = record { accept = accept; done = done; hook_gone = hook_gone; retire = gone; stop = all_stopped }
