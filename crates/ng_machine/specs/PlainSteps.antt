-- The plain journal, computed: the first item that waits is taken and applied at once, and the next input is fed where
-- none waits.
use Rattle.std.specs.Prelude.{ℕ, zero, suc, nat_lt, if◌then◌else◌, List, [], ◌∷◌, ◌++◌, length, slice_get}
use Rattle.ng_base.specs.declared.event.Event.{Event}
use Rattle.ng_base.specs.declared.event.Event.TheVariants.{Feed, Take, Apply}
use Rattle.ng_machine.specs.declared.item.Item.{Item}
use Rattle.ng_machine.specs.World.{World}
use Rattle.ng_machine.specs.Effect.{apply_item}
use Rattle.ng_machine.specs.Feed.{RunInput, feed_next}

-- events, and the world after them
pub record Stretch : Type 0 where
  pub events : List Event
  pub world : World

abbrev pub feed_or_end : RunInput → World → Stretch
feed_or_end given w =
    if nat_lt w.fed (length given.inputs)
    then record { events = Feed ∷ []; world = feed_next given w (slice_get given.inputs w.fed) }
    else record { events = []; world = w }

abbrev pub plain_step : RunInput → World → List Item → Stretch
plain_step given w [] = feed_or_end given w
plain_step given w (item ∷ items) = record { events = Take 0 item.id ∷ Apply item.id ∷ []; world = apply_item w item }

abbrev pub with_events_before : List Event → Stretch → Stretch
with_events_before events rest = record { events = events ++ rest.events; world = rest.world }

-- so many steps, or fewer where nothing is left to do
abbrev pub plain_steps : ℕ → RunInput → World → Stretch
plain_steps zero given w = record { events = []; world = w }
plain_steps (suc n) given w = with_events_before (plain_step given w w.pending).events (plain_steps n given (plain_step given w w.pending).world)
