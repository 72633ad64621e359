-- The state of a tee as its node keeps it.
use Rattle.std.specs.Prelude.{ℕ, List}
use Rattle.ng_machine.specs.Counters.{Rows}
use Rattle.ng_machine.specs.State.{State, TeeState}

-- its hooks, and its rows of counters
pub record Tee : Type 0 where
  pub hooks : List (List ℕ)
  pub rows : Rows

abbrev pub tee_state : Tee → State
tee_state t = record { hooks = t.hooks; kept = TeeState t.rows }
