-- What is out stays out, the limit takes nothing, and an item comes back or is applied by its taker.
use Rattle.std.proofs.Common.{◌≡◌, ◌⊎◌, ℕ, List, [], ◌∷◌, Bool, true, false, not, if◌then◌else◌, ◌==◌, refl, sym, ap, ◌∙◌, inl, inr, ⊎_elim, subst, arith, true≢false}
use Rattle.std.specs.declared.option.Option.{Option}
use Rattle.std.specs.declared.option.Option.TheVariants.{None, Some}
use Rattle.std.specs.Option.{option_or}
use Rattle.std.proofs.lemmas.Bool.{eqb-true, eq-eqb, cases_Bool}
use Rattle.ng_base.specs.declared.event.Event.{Event}
use Rattle.ng_base.specs.declared.event.Event.TheVariants.{Feed, Take, Back, Apply, Stop}
use Rattle.ng_base.specs.declared.ids.ItemId.{ItemId}
use Rattle.ng_machine.specs.Words.{Has}
use Rattle.ng_machine.specs.Feed.{RunInput}
use Rattle.ng_machine.specs.Run.{RunState, Taken, is_of, after, after_all, beginning}
use Rattle.ng_machine.specs.Orderly.{IsTaken, AllowedEvent, OrderlyFrom}
use Rattle.ng_machine.specs.Laws.{Setting, start, run_state_after, taken_by, ends}
use Rattle.ng_machine.specs.RunLaws.{StaysOut, SpentTakesNothing, ByItsTaker, taker, last_taker}
use Rattle.ng_machine.proofs.Standing.{in_back, in_pushed, of_filter}
use Rattle.ng_machine.proofs.NodeLists.{item_same}
use Rattle.ng_machine.proofs.Moves.{KeptAt, kept_event, taking}
use Rattle.ng_machine.proofs.Ordering.{after-append, kept_all, kept_before, orderly_front, orderly_back}
use Rattle.ng_machine.proofs.Held.{no_length}
use Rattle.ng_machine.proofs.Stilled.{remains_run}

pub stays_out : StaysOut
stays_out s j k p seat o hp unended =
    let K = kept_before s j (Take seat p.id ∷ k) o in
    let back = orderly_back s.given s.budget s.seats (beginning (start s)) j (Take seat p.id ∷ k) o in
    let a = run_state_after s j in
    let b = after s.given a (Take seat p.id) in
    let L : KeptAt s.budget b = kept_event s.given s.budget s.seats a (Take seat p.id) back.0.1 K in
    let m = remains_run s.given s.budget s.seats b k p (taking p.id seat) back.1 L unended hp (in_back (taking p.id seat) a.taken (taking p.id seat ∷ []) (inl refl)) refl in
    let whole = sym (after-append s.given (beginning (start s)) j (Take seat p.id ∷ k)) in
    record {
      pending = subst (λ (z : RunState). Has p z.world.pending) whole m.is_pending;
      taken = subst (λ (z : RunState). Has (taken_by p.id seat) z.taken) whole m.is_out;
    }

pub spent_takes_nothing : SpentTakesNothing
spent_takes_nothing s j o spent =
    let K : KeptAt s.budget (run_state_after s j) = kept_all s j o in
    let room = K.room in
    no_length (run_state_after s j).taken (omega arith)

-- what is taken was last taken by that seat, along these events, or was taken before them

abbrev TakenSince : ItemId → ℕ → RunState → List Event → Type 0
TakenSince id seat at j = (last_taker id j ≡ Some seat) ⊎ ((last_taker id j ≡ None) × Has (taken_by id seat) at.taken)

taken_since : (given : RunInput) (budget seats : ℕ) (at : RunState) (j : List Event) (id : ItemId) (seat : ℕ) → OrderlyFrom given budget seats at j
    → Has (taken_by id seat) (after_all given at j).taken → TakenSince id seat at j
taken_since given budget seats at [] id seat o h = inr (refl, h)
taken_since given budget seats at (e ∷ es) id seat o h = ⊎_elim
    (λ (is : last_taker id es ≡ Some seat). inl (ap (λ (x : Option ℕ). option_or x (taker id e)) is))
    (λ (x : (last_taker id es ≡ None) × Has (taken_by id seat) (after given at e).taken). by e o.0.1 x.0 x.1)
    (taken_since given budget seats (after given at e) es id seat o.1 h)
  where
    before : (e : Event) → taker id e ≡ None → last_taker id es ≡ None → Has (taken_by id seat) at.taken → TakenSince id seat at (e ∷ es)
    before e own none t = inr (ap (λ (x : Option ℕ). option_or x (taker id e)) none ∙ own, t)

    by : (e : Event) → AllowedEvent given budget seats at e → last_taker id es ≡ None → Has (taken_by id seat) (after given at e).taken → TakenSince id seat at (e ∷ es)
    by Feed a none t = before Feed refl none t
    by (Back other) a none t = before (Back other) refl none (of_filter (λ t. not (is_of other t)) (taken_by id seat) at.taken t).0
    by (Apply other) a none t = before (Apply other) refl none (of_filter (λ t. not (is_of other t)) (taken_by id seat) at.taken t).0
    by Stop a none t = before Stop refl none t
    by (Take by_seat other) a none t = ⊎_elim
        (λ (old : Has (taken_by id seat) at.taken).
        let apart : (other.0 == id.0) ≡ false = (elim (cases_Bool (other.0 == id.0)) [
          | inl same ↦ absurd (a.may.untaken (taken_by id seat, old, sym (item_same other id (eqb-true other.0 id.0 same)) ∙ sym a.item_is))
          | inr differs ↦ differs
        ]) in
        before (Take by_seat other) (ap (λ (b : Bool). if b then Some by_seat else None) apart) none old)
        (λ (new : taken_by id seat ≡ taking other by_seat).
        let same : (other.0 == id.0) ≡ true = eq-eqb other.0 id.0 (sym (ap (λ (x : Taken). x.id.0) new)) in
        inl (ap (λ (x : Option ℕ). option_or x (taker id (Take by_seat other))) none ∙ ap (λ (b : Bool). if b then Some by_seat else None) same ∙ ap (λ (x : Taken). Some x.seat) (sym new)))
        (in_pushed (taken_by id seat) (taking other by_seat) at.taken t)

-- nothing is taken at the beginning
taken_by_last : (s : Setting) (j : List Event) (id : ItemId) (seat : ℕ) → OrderlyFrom s.given s.budget s.seats (beginning (start s)) j
    → Has (taken_by id seat) (run_state_after s j).taken → last_taker id j ≡ Some seat
taken_by_last s j id seat o h = ⊎_elim
    (λ (is : last_taker id j ≡ Some seat). is)
    (λ (x : (last_taker id j ≡ None) × ⊥). absurd x.1)
    (taken_since s.given s.budget s.seats (beginning (start s)) j id seat o h)

pub by_its_taker : ByItsTaker
by_its_taker s j rest e id o is =
    let back = orderly_back s.given s.budget s.seats (beginning (start s)) j (e ∷ rest) o in
    let t = taken e is back.0.1 in
    let same : t.0 ≡ taken_by id t.0.seat = ap (λ (i : ItemId). taken_by i t.0.seat) t.2 in
    let here : Has (taken_by id t.0.seat) (run_state_after s j).taken = subst (λ (x : Taken). Has x (run_state_after s j).taken) same t.1 in
    (t.0.seat, here, taken_by_last s j id t.0.seat (orderly_front s.given s.budget s.seats (beginning (start s)) j (e ∷ rest) o) here)
  where
    taken : (e : Event) → ends id e ≡ true → AllowedEvent s.given s.budget s.seats (run_state_after s j) e → IsTaken (run_state_after s j).taken id
    taken (Back other) is a = subst (IsTaken (run_state_after s j).taken) (item_same other id (eqb-true other.0 id.0 is)) a
    taken (Apply other) is a = subst (IsTaken (run_state_after s j).taken) (item_same other id (eqb-true other.0 id.0 is)) a
    taken _ is a = absurd (true≢false (sym is))
