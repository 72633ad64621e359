-- The first inputs of a plain run are done before the others: there is a place in its journal where they are fed and nothing is
-- pending, and so far it is a plain journal of them alone.
use Rattle.std.proofs.Common.{◌≡◌, ◌∙◌, ℕ, zero, suc, ◌+◌, ◌<◌, ◌≤◌, List, [], ◌∷◌, ◌++◌, length, true, false, slice_get, refl, sym, ap, subst, ⊎_elim, arith, true≢false}
use Rattle.std.specs.declared.option.Option.{Option}
use Rattle.std.specs.List.{list_any}
use Rattle.std.proofs.lemmas.Bool.{cases_lt, or_parts}
use Rattle.ng_base.specs.declared.event.Event.{Event}
use Rattle.ng_base.specs.declared.event.Event.TheVariants.{Feed, Take, Back, Apply, Stop}
use Rattle.ng_machine.specs.declared.input.Input.{Input}
use Rattle.ng_machine.specs.Feed.{RunInput, feed_next}
use Rattle.ng_machine.specs.Run.{RunState, after, after_all}
use Rattle.ng_machine.specs.Orderly.{MayFeedNext, OrderlyFrom, IsQuiet}
use Rattle.ng_machine.specs.Plain.{PlainFrom}
use Rattle.ng_machine.proofs.Moves.{apply_fed}
use Rattle.ng_laws.specs.still_graph.Bag.{is_stop}
use Rattle.ng_forecast.proofs.FedInputs.{fed_more, fed_rises}

-- A JOURNAL IN TWO PARTS

-- after the first part nothing is pending, and so many inputs are fed
pub record IsParted (given : RunInput) (n : ℕ) (at : RunState) (journal : List Event) : Type 0 where
  pub first : List Event
  pub rest : List Event
  pub parts : journal ≡ first ++ rest
  pub idle : (after_all given at first).world.pending ≡ []
  pub fed : (after_all given at first).world.fed ≡ n

-- the first part is empty, or has the next event
parted_here : (given : RunInput) (n : ℕ) (at : RunState) (journal : List Event) → at.world.pending ≡ [] → at.world.fed ≡ n
    → IsParted given n at journal
parted_here given n at journal idle fed = record { first = []; rest = journal; parts = refl; idle = idle; fed = fed }

parted_later : (given : RunInput) (n : ℕ) (at : RunState) (event : Event) (events : List Event) → IsParted given n (after given at event) events
    → IsParted given n at (event ∷ events)
parted_later given n at event events parted = record {
  first = event ∷ parted.first;
  rest = parted.rest;
  parts = ap (λ (l : List Event). event ∷ l) parted.parts;
  idle = parted.idle;
  fed = parted.fed;
}

-- a plain journal that comes to rest with so many inputs, or more, has these parts
pub parted : (given : RunInput) (budget n : ℕ) (at : RunState) (journal : List Event) → n ≤ length given.inputs → at.world.fed ≤ n
    → OrderlyFrom given budget 1 at journal → PlainFrom given at journal → list_any is_stop journal ≡ false
    → IsQuiet given (after_all given at journal).world → IsParted given n at journal
parted given budget n at [] many few o p on quiet = let all = quiet.fed in parted_here given n at [] quiet.idle (omega arith)
parted given budget n at (Feed ∷ events) many few o p on quiet =
    let fed : (after given at Feed).world.fed ≡ at.world.fed + 1 = fed_more given at.world (slice_get given.inputs at.world.fed) o.0.1.1 in
    ⊎_elim
    (λ (lt : at.world.fed < n). parted_later given n at Feed events
    (parted given budget n (after given at Feed) events many (omega arith) o.1 p.1 (or_parts false (list_any is_stop events) on).1 quiet))
    (λ (le : n ≤ at.world.fed). parted_here given n at (Feed ∷ events) p.0.1 (omega arith))
    (cases_lt at.world.fed n)
parted given budget n at (Take seat id ∷ events) many few o p on quiet =
    parted_later given n at (Take seat id) events
    (parted given budget n (after given at (Take seat id)) events many few o.1 p.1 (or_parts false (list_any is_stop events) on).1 quiet)
parted given budget n at (Back id ∷ events) many few o p on quiet = absurd p.0
parted given budget n at (Apply id ∷ events) many few o p on quiet =
    let fed : (after given at (Apply id)).world.fed ≡ at.world.fed = apply_fed at.world id in
    parted_later given n at (Apply id) events
    (parted given budget n (after given at (Apply id)) events many (omega arith) o.1 p.1 (or_parts false (list_any is_stop events) on).1 quiet)
parted given budget n at (Stop ∷ events) many few o p on quiet = absurd (true≢false (or_parts true (list_any is_stop events) on).0)

-- THE FIRST INPUTS ALONE

abbrev pub with_inputs : RunInput → List Input → RunInput
with_inputs given inputs = record given { inputs = inputs }

get_front : (xs ys : List Input) (k : ℕ) → k < length xs → slice_get (xs ++ ys) k ≡ slice_get xs k
get_front [] ys k lt = absurd (omega arith)
get_front (x ∷ xs) ys zero lt = refl
get_front (x ∷ xs) ys (suc k) lt = get_front xs ys k (omega arith)

-- a journal is allowed and plain with these inputs too, and comes to the same
pub record IsAlso (given : RunInput) (inputs : List Input) (budget : ℕ) (at : RunState) (journal : List Event) : Type 0 where
  pub orderly : OrderlyFrom (with_inputs given inputs) budget 1 at journal
  pub plainly : PlainFrom (with_inputs given inputs) at journal
  pub same : after_all (with_inputs given inputs) at journal ≡ after_all given at journal

-- one event more, which does the same
also_later : (given : RunInput) (inputs : List Input) (budget : ℕ) (at : RunState) (event : Event) (events : List Event)
    → OrderlyFrom (with_inputs given inputs) budget 1 at (event ∷ []) → PlainFrom (with_inputs given inputs) at (event ∷ [])
    → after given at event ≡ after (with_inputs given inputs) at event
    → IsAlso given inputs budget (after given at event) events → IsAlso given inputs budget at (event ∷ events)
also_later given inputs budget at event events may plain same also =
    let other = with_inputs given inputs in
    record {
      orderly = (may.0, subst (λ (x : RunState). OrderlyFrom other budget 1 x events) same also.orderly);
      plainly = (plain.0, subst (λ (x : RunState). PlainFrom other x events) same also.plainly);
      same = ap (λ (x : RunState). after_all other x events) (sym same) ∙ also.same;
    }

-- a journal that feeds some of the first inputs alone, and doesn't stop
pub first_alone : (given : RunInput) (xs ys : List Input) (budget : ℕ) (at : RunState) (journal : List Event) → given.inputs ≡ xs ++ ys
    → OrderlyFrom given budget 1 at journal → PlainFrom given at journal → list_any is_stop journal ≡ false
    → (after_all given at journal).world.fed ≤ length xs → IsAlso given xs budget at journal
first_alone given xs ys budget at [] is o p on few = record { orderly = tt; plainly = tt; same = refl }
first_alone given xs ys budget at (Feed ∷ events) is o p on few =
    let fed : (after given at Feed).world.fed ≡ at.world.fed + 1 = fed_more given at.world (slice_get given.inputs at.world.fed) o.0.1.1 in
    let rises = fed_rises given budget 1 (after given at Feed) events o.1 in
    let below : at.world.fed < length xs = omega arith in
    let next : slice_get given.inputs at.world.fed ≡ slice_get xs at.world.fed =
    ap (λ (inputs : List Input). slice_get inputs at.world.fed) is ∙ get_front xs ys at.world.fed below in
    let may : MayFeedNext at.world (slice_get xs at.world.fed) = subst (MayFeedNext at.world) next o.0.1.1 in
    also_later given xs budget at Feed events ((o.0.0, (o.0.1.0, may)), tt) (p.0, tt)
    (ap (λ (o : Option Input). record at { world = feed_next given at.world o }) next)
    (first_alone given xs ys budget (after given at Feed) events is o.1 p.1 (or_parts false (list_any is_stop events) on).1 few)
first_alone given xs ys budget at (Take seat id ∷ events) is o p on few =
    also_later given xs budget at (Take seat id) events (o.0, tt) (p.0, tt) refl
    (first_alone given xs ys budget (after given at (Take seat id)) events is o.1 p.1 (or_parts false (list_any is_stop events) on).1 few)
first_alone given xs ys budget at (Back id ∷ events) is o p on few = absurd p.0
first_alone given xs ys budget at (Apply id ∷ events) is o p on few =
    also_later given xs budget at (Apply id) events (o.0, tt) (p.0, tt) refl
    (first_alone given xs ys budget (after given at (Apply id)) events is o.1 p.1 (or_parts false (list_any is_stop events) on).1 few)
first_alone given xs ys budget at (Stop ∷ events) is o p on few = absurd (true≢false (or_parts true (list_any is_stop events) on).0)
