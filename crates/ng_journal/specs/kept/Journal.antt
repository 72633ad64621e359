-- What a contract sees of a journal.
use Rattle.std.specs.Prelude.{ℕ, List}
use Rattle.ng_base.specs.declared.event.Event.{Event}

-- the events, and for how many more there is memory
pub record Log : Type 0 where
  pub items : List Event
  pub room : ℕ
