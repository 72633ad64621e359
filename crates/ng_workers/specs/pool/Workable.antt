-- Which jobs can be worked on.
use Rattle.std.specs.Prelude.{◌≡◌, true, Some}
use Rattle.ng_machine.specs.Body.{is_frame}
use Rattle.ng_machine.specs.Desk.{Job, Idle, Within, Reads, Writes}
use Rattle.ng_machine.specs.State.{State, way_of}
use Rattle.ng_plan.specs.node.Write.{IsWritable}

-- a plan for a packet stands for a node that the packet can come to by its door, and a node for any other body is one that the
-- body can be written to
abbrev pub IsWorkable : Job → Type 0
IsWorkable Idle = Unit {0}
IsWorkable (Within item) = Unit {0}
IsWorkable (Reads item plan) = (state : State) × (way_of state ≡ Some plan) × (is_frame item.body ≡ true) × IsWritable state item.body
IsWorkable (Writes item state) = IsWritable state item.body
