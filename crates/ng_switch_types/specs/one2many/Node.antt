-- The state of a node of the type: a one2many's rows of counters begin and end with its hooks, so its hooks are those of
-- its rows.
use Rattle.std.specs.Prelude.{ℕ, List, map}
use Rattle.ng_machine.specs.Counters.{Rows}
use Rattle.ng_machine.specs.kinds.One2many.{One2many}
use Rattle.ng_machine.specs.State.{State, One2manyState}

abbrev pub names_of : Rows → List (List ℕ)
names_of rows = map (λ row. row.0) rows

abbrev pub one2many_state : One2many → State
one2many_state s = record { hooks = names_of s.rows; kept = One2manyState s }
