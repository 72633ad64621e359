-- The words of the forecast are those behind the first.
use Rattle.std.proofs.Common.{ℕ, List, subst}
use Rattle.ng_call.specs.Called.{happened, kinds_of}
use Rattle.ng_args.specs.Forecast.{forecast_words_of}
use Rattle.ng_forecast.specs.Behaves.{IsForecastCall}
use Rattle.ng_top.proofs.top.forecast.Goals as goal

pub returns : goal.returns
returns g c = record {
  did =
      subst
      (λ (words : List (List ℕ)). IsForecastCall (kinds_of g.B.Node.state c.args.stock.items) (forecast_words_of words)
      (happened g.O.Sink.contents g.O.Sink.faults g.F.Files.contents g.F.Files.faults c.args.out.now c.ngforecast.new.out c.args.files.now c.ngforecast.new.files)
      c.ngforecast.result)
      c.behind_first.ensures c.ngforecast.ensures;
}
