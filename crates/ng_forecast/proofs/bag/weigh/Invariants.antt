use Rattle.std.proofs.Common.{◌≡◌, ◌≤◌, ◌+◌, drop}
use Rattle.ng_forecast.specs.spread.Weight.{weight}
use Rattle.ng_forecast.specs.Packets.{most_weight}
use Rattle.ng_forecast.proofs.bag.weigh.Given as goal

abbrev pub invariant-loop-place : goal.invariant-loop-place
invariant-loop-place l = record {
  total : l.total + weight (drop l.place-index l.left) ≡ l.so_far + weight l.left;
  light : l.total ≤ most_weight;
}
