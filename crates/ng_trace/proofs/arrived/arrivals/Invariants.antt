-- Those of the inputs so far.
use Rattle.std.proofs.Common.{◌≡◌, map}
use Rattle.std.specs.Prelude.{take}
use Rattle.ng_trace.specs.Arrivals.{arrived_of}
use Rattle.ng_trace.proofs.arrived.arrivals.Given as goal

abbrev pub invariant-loop-input : goal.invariant-loop-input
invariant-loop-input l = l.all.items ≡ map arrived_of (take l.input-index l.inputs)
