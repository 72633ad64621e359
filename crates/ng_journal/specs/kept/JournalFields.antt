-- A journal by its fields.
use Rattle.std.specs.Prelude.{◌≡◌, ◌-◌, ◌++◌, min, List, length, vec_len, vec_capacity}
use Rattle.ng_base.specs.declared.event.Event.{Event}
use Rattle.ng_journal.specs.declared.kept.short.Short.{Short}
use Rattle.ng_journal.specs.declared.kept.journal.Journal.TheInside.{Inside}
use Rattle.ng_journal.specs.kept.Journal.{Log}
use Rattle.ng_journal.specs.kept.Shorts.{events_in}

abbrev pub log_of : Inside → Log
log_of j = record {
  items = events_in j.shorts.items j.great.items;
  room = min (vec_capacity j.shorts - vec_len j.shorts) (vec_capacity j.great - vec_len j.great);
}

-- whatever comes behind stands behind all events, and none is missing
pub record IsConsistent (j : Inside) : Type 0 where
  pub behind : (shorts : List Short) (great : List Event)
      → events_in (j.shorts.items ++ shorts) (j.great.items ++ great) ≡ events_in j.shorts.items j.great.items ++ events_in shorts great
  pub count : length (events_in j.shorts.items j.great.items) ≡ length j.shorts.items
