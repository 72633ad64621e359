use Rattle.std.proofs.Common.{◌≡◌, ◌-◌}
use Rattle.std.specs.Vec.Iter.{into_iter_items}
use Rattle.ng_machine.specs.Outcome.{nothing}
use Rattle.ng_machine.specs.Spread.{spread_in}
use Rattle.ng_forecast.specs.spread.Met.{met_in}
use Rattle.ng_forecast.proofs.spread.Walking.{Sending}
use Rattle.ng_forecast.proofs.spread.following.+follow.Given as goal

abbrev pub decreases-follow : goal.decreases-follow
decreases-follow g l = l.hops

-- the copies of what the iterator has left are still to be followed
abbrev pub invariant-loop-name : goal.invariant-loop-name
invariant-loop-name g l = record {
  blank : l.spare ≡ nothing;
  sending : Sending l.still.nodes (l.hops - 1) l.flight-inside.to (into_iter_items l.name-iterator) (met_in l.still.nodes l.hops l.flight)
      (spread_in l.still.nodes l.hops l.flight) l.followed l.fn.trail l.trail;
}
