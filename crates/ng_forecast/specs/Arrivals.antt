-- The packets among inputs, in order.
use Rattle.std.specs.Prelude.{List, [], ◌∷◌}
use Rattle.ng_machine.specs.declared.input.Input.{Input}
use Rattle.ng_machine.specs.declared.input.Input.TheVariants.{Command, Late, Packet, Tick}
use Rattle.ngctl_script.specs.declared.feed.arrival.Arrival.{Arrival}

abbrev pub packets_among : List Input → List Arrival
packets_among [] = []
packets_among (Packet port stamp packet ∷ inputs) = record { port = port; stamp = stamp; packet = packet } ∷ packets_among inputs
packets_among (Tick seconds ∷ inputs) = packets_among inputs
packets_among (Command command ∷ inputs) = packets_among inputs
packets_among (Late command ∷ inputs) = packets_among inputs
