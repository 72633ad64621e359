use Rattle.std.proofs.Common.{refl}
use Rattle.ng_forecast.proofs.Counting.{empty_counts}
use Rattle.ng_forecast.proofs.text.no_counts.Goals as goal

pub returns : goal.returns
returns c = empty_counts _ refl refl c.no_hooks.ensures.kept c.no_hooks.ensures.counts c.no_hooks.ensures.names
