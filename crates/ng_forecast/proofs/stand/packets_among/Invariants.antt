use Rattle.std.proofs.Common.{◌≡◌}
use Rattle.ng_forecast.specs.Arrivals.{packets_among}
use Rattle.ng_forecast.proofs.stand.packets_among.Given as goal

abbrev pub invariant-loop-input : goal.invariant-loop-input
invariant-loop-input l = l.arrivals.items ≡ packets_among l.yielded
