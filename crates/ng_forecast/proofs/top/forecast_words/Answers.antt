use Rattle.ng_call.specs.Called.{kinds_of}
use Rattle.ng_forecast.proofs.Ending.{ends_refused}
use Rattle.ng_forecast.proofs.top.forecast_words.Goals as goal

pub returns-in-Err : goal.returns-in-Err
returns-in-Err g c =
    rw (c.refused.ensures.status, c.refused.ensures.bag, c.refused.ensures.fault)
    (ends_refused (kinds_of g.B.Node.state c.args.stock.items) c.args.words.now (g.F.Files.contents c.args.files.now) (g.F.Files.contents c.foretell.new.files)
    (g.F.Files.faults c.args.files.now) (g.F.Files.faults c.foretell.new.files) c.in-Err.fault c.in-Err.ensures.same c.in-Err.ensures.err
    (g.O.Sink.contents c.args.out.now) (g.O.Sink.faults c.args.out.now) (g.O.Sink.faults c.args.out.now))
