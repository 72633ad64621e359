use Rattle.ng_forecast.proofs.Counting.{none_counted, none_few}
use Rattle.ng_forecast.proofs.text.count_all.Goals as goal

pub loop-place-init : goal.loop-place-init
loop-place-init c = record {
  counting = none_counted c.no_counts-counts.result c.args.bag.now c.no_counts-counts.ensures;
  few = none_few c.no_counts-counts.result c.no_counts-counts.ensures;
}
