use Rattle.std.proofs.Common.{◌≡◌, ◌+◌, drop, map}
use Rattle.ng_machine.specs.Outcome.{nothing}
use Rattle.ng_forecast.specs.Packets.{flight_of}
use Rattle.ng_forecast.proofs.Gathering.{Gathers}
use Rattle.ng_forecast.proofs.bag.gather.Given as goal

abbrev pub invariant-loop-i : goal.invariant-loop-i
invariant-loop-i g l = record {
  blank : l.spare ≡ nothing;
  gathers : Gathers l.still.nodes l.hops (map flight_of l.arrivals) (map flight_of (drop l.i l.arrivals)) (l.i + 1) l.weight l.trail.room l.trail.bag.items;
}
