-- What an orderly journal feeds: each input once, in order, and nothing else.
use Rattle.std.proofs.Common.{◌≡◌, ◌∙◌, ℕ, zero, suc, ◌+◌, ◌≤◌, List, [], ◌∷◌, ◌++◌, map, drop, true, is_some, slice_get, refl, sym, ap, subst, arith, add-one, true≢false}
use Rattle.std.specs.declared.option.Option.{Option}
use Rattle.std.specs.declared.option.Option.TheVariants.{None, Some}
use Rattle.ng_base.specs.declared.event.Event.{Event}
use Rattle.ng_base.specs.declared.event.Event.TheVariants.{Feed, Take, Back, Apply, Stop}
use Rattle.ng_machine.specs.declared.input.Input.{Input}
use Rattle.ng_machine.specs.World.{World}
use Rattle.ng_machine.specs.Feed.{RunInput, feed_next}
use Rattle.ng_machine.specs.Run.{RunState, after, after_all}
use Rattle.ng_machine.specs.Orderly.{MayFeedNext, OrderlyFrom}
use Rattle.ng_machine.proofs.Kept.{fed_quietly}
use Rattle.ng_machine.proofs.Moves.{apply_fed}
use Rattle.ng_machine.proofs.Quieted.{input_quietly}
use Rattle.ng_laws.specs.still_graph.Bag.{inputs_from}

abbrev pub some_of : List Input → List (Option Input)
some_of inputs = map (λ input. Some input) inputs

pub some_next : (w : World) (o : Option Input) → MayFeedNext w o → is_some o ≡ true
some_next w None may = absurd may
some_next w (Some input) may = refl

-- one input more is fed
pub fed_more : (given : RunInput) (w : World) (o : Option Input) → MayFeedNext w o → (feed_next given w o).fed ≡ w.fed + 1
fed_more given w None may = absurd may
fed_more given w (Some input) may = fed_quietly (input_quietly given (record w { fed = w.fed + 1 }) input)

-- the inputs from one on are that one, and those from the next on
next_first : (inputs : List Input) (n : ℕ) → is_some (slice_get inputs n) ≡ true
    → some_of (drop n inputs) ≡ slice_get inputs n ∷ some_of (drop (suc n) inputs)
next_first [] n there = absurd (true≢false (sym there))
next_first (input ∷ inputs) zero there = refl
next_first (input ∷ inputs) (suc n) there = next_first inputs n there

-- what a journal feeds, and what is unfed after it, are what was unfed before it
pub fed_in_order : (given : RunInput) (budget seats : ℕ) (at : RunState) (journal : List Event) → OrderlyFrom given budget seats at journal
    → inputs_from given at.world.fed journal ++ some_of (drop (after_all given at journal).world.fed given.inputs)
    ≡ some_of (drop at.world.fed given.inputs)
fed_in_order given budget seats at [] o = refl
fed_in_order given budget seats at (Feed ∷ events) o =
    let next = slice_get given.inputs at.world.fed in
    let unfed = some_of (drop (after_all given (after given at Feed) events).world.fed given.inputs) in
    let fed : (feed_next given at.world next).fed ≡ at.world.fed + 1 = fed_more given at.world next o.0.1.1 in
    let more : inputs_from given (at.world.fed + 1) events ++ unfed ≡ some_of (drop (at.world.fed + 1) given.inputs) =
    subst (λ (n : ℕ). inputs_from given n events ++ unfed ≡ some_of (drop n given.inputs)) fed
    (fed_in_order given budget seats (after given at Feed) events o.1) in
    ap (λ (rest : List (Option Input)). next ∷ rest) more
    ∙ ap (λ (n : ℕ). next ∷ some_of (drop n given.inputs)) (add-one at.world.fed)
    ∙ sym (next_first given.inputs at.world.fed (some_next at.world next o.0.1.1))
fed_in_order given budget seats at (Take seat id ∷ events) o = fed_in_order given budget seats (after given at (Take seat id)) events o.1
fed_in_order given budget seats at (Back id ∷ events) o = fed_in_order given budget seats (after given at (Back id)) events o.1
fed_in_order given budget seats at (Apply id ∷ events) o =
    let unfed = some_of (drop (after_all given (after given at (Apply id)) events).world.fed given.inputs) in
    subst (λ (n : ℕ). inputs_from given n events ++ unfed ≡ some_of (drop n given.inputs)) (apply_fed at.world id)
    (fed_in_order given budget seats (after given at (Apply id)) events o.1)
fed_in_order given budget seats at (Stop ∷ events) o = fed_in_order given budget seats (after given at Stop) events o.1

-- as many inputs are fed after a journal as before it, or more
pub fed_rises : (given : RunInput) (budget seats : ℕ) (at : RunState) (journal : List Event) → OrderlyFrom given budget seats at journal
    → at.world.fed ≤ (after_all given at journal).world.fed
fed_rises given budget seats at [] o = omega arith
fed_rises given budget seats at (Feed ∷ events) o =
    let next = slice_get given.inputs at.world.fed in
    let fed : (after given at Feed).world.fed ≡ at.world.fed + 1 = fed_more given at.world next o.0.1.1 in
    let more = fed_rises given budget seats (after given at Feed) events o.1 in
    omega arith
fed_rises given budget seats at (Take seat id ∷ events) o = fed_rises given budget seats (after given at (Take seat id)) events o.1
fed_rises given budget seats at (Back id ∷ events) o = fed_rises given budget seats (after given at (Back id)) events o.1
fed_rises given budget seats at (Apply id ∷ events) o =
    let fed : (after given at (Apply id)).world.fed ≡ at.world.fed = apply_fed at.world id in
    let more = fed_rises given budget seats (after given at (Apply id)) events o.1 in
    omega arith
fed_rises given budget seats at (Stop ∷ events) o = fed_rises given budget seats (after given at Stop) events o.1
