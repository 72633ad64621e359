use Rattle.std.proofs.Common.{drop}
use Rattle.ng_forecast.proofs.Counting.{AreFew, IsCounting}
use Rattle.ng_forecast.proofs.text.count_all.Given as goal

abbrev pub invariant-loop-place : goal.invariant-loop-place
invariant-loop-place l = record {
  counting : IsCounting l.counts (drop l.place-index l.bag) l.bag;
  few : AreFew l.counts l.place-index;
}
