-- The events that are kept: each of small numbers as it is, and for each other one the next of a list of their own.
use Rattle.std.specs.Prelude.{ℕ, suc, Bool, true, ◌&&◌, nat_lt, List, [], ◌∷◌, Option, Some, None}
use Rattle.ng_base.specs.declared.event.Event.{Event}
use Rattle.ng_base.specs.declared.event.Event.TheVariants as event
use Rattle.ng_journal.specs.declared.kept.short.Short.{Short}
use Rattle.ng_journal.specs.declared.kept.short.Short.TheVariants.{Feed, Take, Back, Apply, Stop, Great}

-- the numbers of an event fit into 16 bits and 32
abbrev pub is_small : Event → Bool
is_small event.Feed = true
is_small (event.Take seat id) = nat_lt seat 65536 && nat_lt id.0 4294967296
is_small (event.Back id) = nat_lt id.0 4294967296
is_small (event.Apply id) = nat_lt id.0 4294967296
is_small event.Stop = true

-- the event of small numbers, or none where it stands elsewhere
abbrev pub of_short : Short → Option Event
of_short Feed = Some event.Feed
of_short (Take seat id) = Some (event.Take seat (record { 0 = id }))
of_short (Back id) = Some (event.Back (record { 0 = id }))
of_short (Apply id) = Some (event.Apply (record { 0 = id }))
of_short Stop = Some event.Stop
of_short Great = None

abbrev pub events_in : List Short → List Event → List Event
events_in [] great = []
events_in (Feed ∷ shorts) great = event.Feed ∷ events_in shorts great
events_in (Take seat id ∷ shorts) great = event.Take seat (record { 0 = id }) ∷ events_in shorts great
events_in (Back id ∷ shorts) great = event.Back (record { 0 = id }) ∷ events_in shorts great
events_in (Apply id ∷ shorts) great = event.Apply (record { 0 = id }) ∷ events_in shorts great
events_in (Stop ∷ shorts) great = event.Stop ∷ events_in shorts great
events_in (Great ∷ shorts) [] = []
events_in (Great ∷ shorts) (event ∷ great) = event ∷ events_in shorts great

-- how many of them are of great numbers
abbrev pub greats_in : List Short → ℕ
greats_in [] = 0
greats_in (Feed ∷ shorts) = greats_in shorts
greats_in (Take seat id ∷ shorts) = greats_in shorts
greats_in (Back id ∷ shorts) = greats_in shorts
greats_in (Apply id ∷ shorts) = greats_in shorts
greats_in (Stop ∷ shorts) = greats_in shorts
greats_in (Great ∷ shorts) = suc (greats_in shorts)
