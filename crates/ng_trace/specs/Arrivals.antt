-- The packets among inputs.
use Rattle.std.specs.Prelude.{length, Option, Some, None}
use Rattle.ng_machine.specs.declared.input.Input.{Input}
use Rattle.ng_machine.specs.declared.input.Input.TheVariants.{Packet}
use Rattle.ng_trace.specs.declared.arrived.Arrived.{Arrived}

abbrev pub arrived_of : Input → Option Arrived
arrived_of (Packet port stamp packet) = Some (record { port = port; length = length packet })
arrived_of _ = None
