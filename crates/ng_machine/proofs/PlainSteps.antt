-- A plain journal is orderly, and there is one at most.
use Rattle.std.proofs.Common.{◌≡◌, ℕ, zero, suc, ◌<◌, ◌≤◌, List, [], ◌∷◌, ◌++◌, length, cond, not, Bool, true, false, is_some, slice_get, refl, sym, ap, ◌∙◌, subst, ⊎_elim, arith, true≢false}
use Rattle.std.specs.declared.option.Option.{Option}
use Rattle.std.specs.declared.option.Option.TheVariants.{None, Some}
use Rattle.std.proofs.lemmas.Bool.{eq-eqb}
use Rattle.ng_base.specs.declared.event.Event.{Event}
use Rattle.ng_base.specs.declared.event.Event.TheVariants.{Feed, Take, Back, Apply, Stop}
use Rattle.ng_base.specs.declared.ids.ItemId.{ItemId}
use Rattle.ng_machine.specs.declared.input.Input.{Input}
use Rattle.ng_machine.specs.declared.item.Item.{Item}
use Rattle.ng_machine.specs.Words.{Has}
use Rattle.ng_machine.specs.World.{World}
use Rattle.ng_machine.specs.Feed.{RunInput}
use Rattle.ng_machine.specs.Run.{RunState, Taken, without, after, after_all, beginning}
use Rattle.ng_machine.specs.Orderly.{MayFeedNext, MayTakeNow, IsTaken, AllowedEvent, Allowed, OrderlyFrom, IsQuiet, IsWholeAt}
use Rattle.ng_machine.specs.Plain.{PlainEvent, PlainFrom, IsPlain}
use Rattle.ng_machine.specs.Laws.{start, PlainIsOne, PlainIsOrderly}
use Rattle.ng_machine.proofs.NodeLists.{item_same}
use Rattle.ng_machine.proofs.Moves.{none_left, taking}

-- A journal with one more event that is allowed, and a plain one with one more that is plain

pub orderly_push : (given : RunInput) (budget seats : ℕ) (at : RunState) (events : List Event) (event : Event) → OrderlyFrom given budget seats at events
    → Allowed given budget seats (after_all given at events) event → OrderlyFrom given budget seats at (events ++ event ∷ [])
orderly_push given budget seats at [] event so_far allowed = (allowed, tt)
orderly_push given budget seats at (e ∷ es) event so_far allowed = (so_far.0, orderly_push given budget seats (after given at e) es event so_far.1 allowed)

pub plainly_push : (given : RunInput) (at : RunState) (events : List Event) (event : Event) → PlainFrom given at events → PlainEvent (after_all given at events) event → PlainFrom given at (events ++ event ∷ [])
plainly_push given at [] event so_far plain = (plain, tt)
plainly_push given at (e ∷ es) event so_far plain = (so_far.0, plainly_push given (after given at e) es event so_far.1 plain)

-- A plain journal by its rounds: an input is fed where nothing waits, or an item is taken and applied

pub data Rounds (given : RunInput) (budget : ℕ) : RunState → List Event → Type 0 where
  Ends : {at : RunState} → IsQuiet given at.world → Rounds given budget at []
  Stops : {at : RunState} → AllowedEvent given budget 1 at Stop → Rounds given budget at (Stop ∷ [])
  Feeds : {at : RunState} {es : List Event} → at.world.pending ≡ [] → AllowedEvent given budget 1 at Feed → Rounds given budget (after given at Feed) es → Rounds given budget at (Feed ∷ es)
  Serves : {at : RunState} {id : ItemId} {seat : ℕ} {es : List Event} → MayTakeNow budget 1 at id seat → Rounds given budget (after given (after given at (Take seat id)) (Apply id)) es → Rounds given budget at (Take seat id ∷ Apply id ∷ es)

-- From the definition to the rounds

-- a journal that is orderly, plain and whole from here
pub record PlainHere (given : RunInput) (budget : ℕ) (at : RunState) (j : List Event) : Type 0 where
  pub orderly : OrderlyFrom given budget 1 at j
  pub plainly : PlainFrom given at j
  pub whole : IsWholeAt given (after_all given at j)

later : (given : RunInput) (budget : ℕ) (at : RunState) (e : Event) (es : List Event) → PlainHere given budget at (e ∷ es) → PlainHere given budget (after given at e) es
later given budget at e es P = record { orderly = P.orderly.1; plainly = P.plainly.1; whole = P.whole }

pub nothing_in : (A : Type 0) (xs : List A) (x : A) → xs ≡ [] → Has x xs → ⊥
nothing_in A xs x e h = none_left A xs (ap length e) x h

-- with nothing taken before, nothing is taken after an item was taken and applied
pub without_one : (taken : List Taken) (id : ItemId) (seat : ℕ) → taken ≡ [] → without (taken ++ taking id seat ∷ []) id ≡ []
without_one taken id seat e =
    ap (λ (ts : List Taken). without (ts ++ taking id seat ∷ []) id) e ∙ ap (λ (b : Bool). cond (not b) (taking id seat ∷ []) []) (eq-eqb id.0 id.0 refl)

pushed_some : (taken : List Taken) (t : Taken) → taken ++ t ∷ [] ≡ [] → ⊥
pushed_some [] t e = let l = ap length e in omega arith
pushed_some (u ∷ us) t e = let l = ap length e in omega arith

-- what is taken alone is what is applied
taken_alone : (t : Taken) (id : ItemId) → IsTaken (t ∷ []) id → t.id ≡ id
taken_alone t id k = ⊎_elim (λ (p : k.0 ≡ t). ap (λ (y : Taken). y.id) (sym p) ∙ k.2) (λ (n : ⊥). absurd n) k.1

applied_alone : (taken : List Taken) (t : Taken) (id : ItemId) → taken ≡ [] → IsTaken (taken ++ t ∷ []) id → t.id ≡ id
applied_alone taken t id e k = taken_alone t id (subst (λ (ts : List Taken). IsTaken (ts ++ t ∷ []) id) e k)

rounds : (given : RunInput) (budget : ℕ) (at : RunState) (j : List Event) → at.taken ≡ [] → at.stopped ≡ false → PlainHere given budget at j → Rounds given budget at j
rounds given budget at [] none on P = Ends (P.whole.quiet on)
rounds given budget at (Feed ∷ es) none on P = Feeds P.plainly.0.1 P.orderly.0.1 (rounds given budget (after given at Feed) es none on (later given budget at Feed es P))
rounds given budget at (Back id ∷ es) none on P = absurd P.plainly.0
rounds given budget at (Apply id ∷ es) none on P = absurd (nothing_in Taken at.taken P.orderly.0.1.0 none P.orderly.0.1.1)
rounds given budget at (Stop ∷ []) none on P = Stops P.orderly.0.1
rounds given budget at (Stop ∷ e ∷ es) none on P = absurd (true≢false P.orderly.1.0.0)
rounds given budget at (Take seat id ∷ []) none on P = absurd (nothing_in Item at.world.pending P.orderly.0.1.item (P.whole.quiet on).idle P.orderly.0.1.may.pending)
rounds given budget at (Take seat id ∷ Feed ∷ es) none on P = absurd (pushed_some at.taken (taking id seat) P.plainly.1.0.0)
rounds given budget at (Take seat id ∷ Take k i ∷ es) none on P = absurd (pushed_some at.taken (taking id seat) P.plainly.1.0)
rounds given budget at (Take seat id ∷ Back i ∷ es) none on P = absurd P.plainly.1.0
rounds given budget at (Take seat id ∷ Stop ∷ es) none on P = absurd (pushed_some at.taken (taking id seat) P.plainly.1.0)
rounds given budget at (Take seat id ∷ Apply i ∷ es) none on P =
    let b = after given at (Take seat id) in
    let e : id ≡ i = applied_alone at.taken (taking id seat) i none P.orderly.1.0.1 in
    let done : without b.taken i ≡ [] = subst (λ (n : ItemId). without (at.taken ++ taking id seat ∷ []) n ≡ []) e (without_one at.taken id seat none) in
    let rest = rounds given budget (after given b (Apply i)) es done on (later given budget b (Apply i) es (later given budget at (Take seat id) (Apply i ∷ es) P)) in
    subst (λ (n : ItemId). Rounds given budget (after given b (Apply n)) es → Rounds given budget at (Take seat id ∷ Apply n ∷ es)) e (λ r. Serves P.orderly.0.1 r) rest

-- What each kind of round says of the run

below_length : (inputs : List Input) (k : ℕ) → is_some (slice_get inputs k) ≡ true → k < length inputs
below_length [] k s = absurd (true≢false (sym s))
below_length (x ∷ xs) zero s = omega arith
below_length (x ∷ xs) (suc k) s = let lt = below_length xs k s in omega arith

some_next : (w : World) (o : Option Input) → MayFeedNext w o → is_some o ≡ true
some_next w None m = absurd m
some_next w (Some input) m = refl

feeds_unfed : (given : RunInput) (budget : ℕ) (at : RunState) → AllowedEvent given budget 1 at Feed → at.world.fed < length given.inputs
feeds_unfed given budget at a = below_length given.inputs at.world.fed (some_next at.world (slice_get given.inputs at.world.fed) a.1)

takes_some : (budget : ℕ) (at : RunState) (id : ItemId) (seat : ℕ) → MayTakeNow budget 1 at id seat → at.world.pending ≡ [] → ⊥
takes_some budget at id seat a e = nothing_in Item at.world.pending a.item e a.may.pending

quiet_not_stopped : (given : RunInput) (budget : ℕ) (at : RunState) → IsQuiet given at.world → AllowedEvent given budget 1 at Stop → ⊥
quiet_not_stopped given budget at q b =
    ⊎_elim (λ (h : 0 < length at.world.pending). let e = ap length q.idle in omega arith) (λ (h : at.world.fed < length given.inputs). let e = q.fed in omega arith) b.1

quiet_not_fed : (given : RunInput) (budget : ℕ) (at : RunState) → IsQuiet given at.world → AllowedEvent given budget 1 at Feed → ⊥
quiet_not_fed given budget at q b = let lt = feeds_unfed given budget at b in let f = q.fed in omega arith

full_not_fed : (given : RunInput) (budget : ℕ) (at : RunState) → AllowedEvent given budget 1 at Stop → AllowedEvent given budget 1 at Feed → ⊥
full_not_fed given budget at a b = let lt = b.0 in let f = a.0 in omega arith

full_not_taken : (given : RunInput) (budget : ℕ) (at : RunState) (id : ItemId) (seat : ℕ) → AllowedEvent given budget 1 at Stop → MayTakeNow budget 1 at id seat → ⊥
full_not_taken given budget at id seat a b = let lt = b.within in let f = a.0 in omega arith

-- the least item that may be taken is one
least_is_one : (budget : ℕ) (at : RunState) (id other : ItemId) (seat seen : ℕ) → MayTakeNow budget 1 at id seat → MayTakeNow budget 1 at other seen → id ≡ other
least_is_one budget at id other seat seen a b =
    let low : id.0 ≤ b.item.id.0 = a.least b.item b.may in
    let high : other.0 ≤ a.item.id.0 = b.least a.item a.may in
    let i : a.item.id.0 ≡ id.0 = ap (λ (n : ItemId). n.0) a.item_is in
    let o : b.item.id.0 ≡ other.0 = ap (λ (n : ItemId). n.0) b.item_is in
    item_same id other (omega arith)

seat_is_one : (budget : ℕ) (at : RunState) (id other : ItemId) (seat seen : ℕ) → MayTakeNow budget 1 at id seat → MayTakeNow budget 1 at other seen → seat ≡ seen
seat_is_one budget at id other seat seen a b = let s = a.seat_is in let t = b.seat_is in omega arith

one_from : (given : RunInput) (budget : ℕ) (at : RunState) (j k : List Event) → Rounds given budget at j → Rounds given budget at k → j ≡ k
one_from given budget at j k (Ends q) (Ends p) = refl
one_from given budget at j k (Ends q) (Stops b) = absurd (quiet_not_stopped given budget at q b)
one_from given budget at j k (Ends q) (Feeds e b d) = absurd (quiet_not_fed given budget at q b)
one_from given budget at j k (Ends q) (Serves {id = id} {seat = seat} b d) = absurd (takes_some budget at id seat b q.idle)
one_from given budget at j k (Stops a) (Ends q) = absurd (quiet_not_stopped given budget at q a)
one_from given budget at j k (Stops a) (Stops b) = refl
one_from given budget at j k (Stops a) (Feeds e b d) = absurd (full_not_fed given budget at a b)
one_from given budget at j k (Stops a) (Serves {id = id} {seat = seat} b d) = absurd (full_not_taken given budget at id seat a b)
one_from given budget at j k (Feeds e a d) (Ends q) = absurd (quiet_not_fed given budget at q a)
one_from given budget at j k (Feeds e a d) (Stops b) = absurd (full_not_fed given budget at b a)
one_from given budget at j k (Feeds {es = es} e a d) (Feeds {es = fs} f b c) = ap (λ (l : List Event). Feed ∷ l) (one_from given budget (after given at Feed) es fs d c)
one_from given budget at j k (Feeds e a d) (Serves {id = id} {seat = seat} b c) = absurd (takes_some budget at id seat b e)
one_from given budget at j k (Serves {id = id} {seat = seat} a d) (Ends q) = absurd (takes_some budget at id seat a q.idle)
one_from given budget at j k (Serves {id = id} {seat = seat} a d) (Stops b) = absurd (full_not_taken given budget at id seat b a)
one_from given budget at j k (Serves {id = id} {seat = seat} a d) (Feeds f b c) = absurd (takes_some budget at id seat a f)
one_from given budget at j k (Serves {id = id} {seat = seat} {es = es} a d) (Serves {id = other} {seat = seen} {es = fs} b c) =
    let e : id ≡ other = least_is_one budget at id other seat seen a b in
    let s : seat ≡ seen = seat_is_one budget at id other seat seen a b in
    let c' : Rounds given budget (after given (after given at (Take seat id)) (Apply id)) fs =
    subst (λ (n : ℕ). Rounds given budget (after given (after given at (Take n id)) (Apply id)) fs) (sym s)
    (subst (λ (i : ItemId). Rounds given budget (after given (after given at (Take seen i)) (Apply i)) fs) (sym e) c) in
    let rest = one_from given budget (after given (after given at (Take seat id)) (Apply id)) es fs d c' in
    λ i. Take (s i) (e i) ∷ Apply (e i) ∷ rest i

pub plain_is_one : PlainIsOne
plain_is_one s j k p q =
    let at = beginning (start s) in
    let here : (l : List Event) → IsPlain (start s) s.given s.budget l → Rounds s.given s.budget at l =
    (λ l r. rounds s.given s.budget at l refl refl (record { orderly = r.orderly; plainly = r.plainly; whole = r.whole })) in
    one_from s.given s.budget at j k (here j p) (here k q)

pub plain_is_orderly : PlainIsOrderly
plain_is_orderly s j p = p.orderly
