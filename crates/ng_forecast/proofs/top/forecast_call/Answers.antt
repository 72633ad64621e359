use Rattle.std.proofs.Common.{refl}
use Rattle.ng_call.specs.Called.{happened, kinds_of, texts}
use Rattle.ng_args.specs.Forecast.{forecast_words_of}
use Rattle.ng_forecast.proofs.Ending.{ends_unread}
use Rattle.ng_forecast.proofs.top.forecast_call.Goals as goal

pub returns-in-Err : goal.returns-in-Err
returns-in-Err g c =
    rw (c.refused-in-Err.ensures.status, c.refused-in-Err.ensures.bag, c.refused-in-Err.ensures.fault)
    (ends_unread (kinds_of g.B.Node.state c.args.stock.items) (forecast_words_of (texts c.args.words.now))
    (happened g.O.Sink.contents g.O.Sink.faults g.F.Files.contents g.F.Files.faults c.args.out.now c.args.out.now c.args.files.now c.args.files.now)
    (record { sink = refl; files = refl }))
