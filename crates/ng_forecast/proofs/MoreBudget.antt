-- An orderly journal without a Stop is orderly with every greater limit.
use Rattle.std.proofs.Common.{◌≡◌, ℕ, ◌≤◌, List, [], ◌∷◌, false, arith, true≢false}
use Rattle.std.specs.List.{list_any}
use Rattle.std.proofs.lemmas.Bool.{or_parts}
use Rattle.ng_base.specs.declared.event.Event.{Event}
use Rattle.ng_base.specs.declared.event.Event.TheVariants.{Feed, Take, Back, Apply, Stop}
use Rattle.ng_machine.specs.Feed.{RunInput}
use Rattle.ng_machine.specs.Run.{RunState, after}
use Rattle.ng_machine.specs.Orderly.{AllowedEvent, OrderlyFrom}
use Rattle.ng_laws.specs.still_graph.Bag.{is_stop}

allowed : (given : RunInput) (few many seats : ℕ) (at : RunState) (event : Event) → few ≤ many → is_stop event ≡ false
    → AllowedEvent given few seats at event → AllowedEvent given many seats at event
allowed given few many seats at Feed more on a = let low = a.0 in (omega arith, a.1)
allowed given few many seats at (Take seat id) more on a =
    let low = a.within in
    record {
      seat_is = a.seat_is;
      seat_free = a.seat_free;
      within = omega arith;
      item = a.item;
      item_is = a.item_is;
      may = a.may;
      least = a.least;
    }
allowed given few many seats at (Back id) more on a = a
allowed given few many seats at (Apply id) more on a = a
allowed given few many seats at Stop more on a = absurd (true≢false on)

pub more_budget : (given : RunInput) (few many seats : ℕ) (at : RunState) (journal : List Event) → few ≤ many
    → list_any is_stop journal ≡ false → OrderlyFrom given few seats at journal → OrderlyFrom given many seats at journal
more_budget given few many seats at [] more on o = tt
more_budget given few many seats at (event ∷ events) more on o =
    let parts = or_parts (is_stop event) (list_any is_stop events) on in (
      (o.0.0, allowed given few many seats at event more parts.0 o.0.1),
      more_budget given few many seats (after given at event) events more parts.1 o.1,
    )
