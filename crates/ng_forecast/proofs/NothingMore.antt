-- After the last input, with nothing pending, a plain journal that doesn't stop has no more events.
use Rattle.std.proofs.Common.{◌≡◌, ℕ, List, [], ◌∷◌, length, true, false, refl, subst, arith, true≢false}
use Rattle.std.specs.List.{list_any}
use Rattle.std.proofs.lemmas.Bool.{or_parts}
use Rattle.std.proofs.lemmas.Option.{slice_get_past}
use Rattle.ng_base.specs.declared.event.Event.{Event}
use Rattle.ng_base.specs.declared.event.Event.TheVariants.{Feed, Take, Back, Apply, Stop}
use Rattle.ng_base.specs.declared.ids.ItemId.{ItemId}
use Rattle.ng_machine.specs.declared.item.Item.{Item}
use Rattle.ng_machine.specs.Feed.{RunInput}
use Rattle.ng_machine.specs.Run.{RunState}
use Rattle.ng_machine.specs.Orderly.{IsTaken, MayFeedNext, OrderlyFrom}
use Rattle.ng_machine.proofs.Moves.{KeptAt, held_item}
use Rattle.ng_machine.proofs.PlainSteps.{nothing_in}
use Rattle.ng_laws.specs.still_graph.Bag.{is_stop}

-- what is taken is pending, so nothing is
none_taken : (budget : ℕ) (at : RunState) (id : ItemId) → KeptAt budget at → at.world.pending ≡ [] → IsTaken at.taken id → ⊥
none_taken budget at id kept idle taken =
    let held = held_item at.world at.taken id kept.sound taken in nothing_in Item at.world.pending held.item idle held.is_pending

pub nothing_more : (given : RunInput) (budget seats : ℕ) (at : RunState) (journal : List Event) → KeptAt budget at
    → at.world.pending ≡ [] → at.world.fed ≡ length given.inputs → list_any is_stop journal ≡ false
    → OrderlyFrom given budget seats at journal → journal ≡ []
nothing_more given budget seats at [] kept idle all on o = refl
nothing_more given budget seats at (Feed ∷ events) kept idle all on o =
    absurd (subst (MayFeedNext at.world) (slice_get_past given.inputs at.world.fed (omega arith)) o.0.1.1)
nothing_more given budget seats at (Take seat id ∷ events) kept idle all on o =
    absurd (nothing_in Item at.world.pending o.0.1.item idle o.0.1.may.pending)
nothing_more given budget seats at (Back id ∷ events) kept idle all on o = absurd (none_taken budget at id kept idle o.0.1)
nothing_more given budget seats at (Apply id ∷ events) kept idle all on o = absurd (none_taken budget at id kept idle o.0.1)
nothing_more given budget seats at (Stop ∷ events) kept idle all on o = absurd (true≢false (or_parts true (list_any is_stop events) on).0)
