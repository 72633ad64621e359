use Rattle.std.proofs.Common.{sym}
use Rattle.ng_call.specs.Called.{kinds_of}
use Rattle.ng_replay.proofs.Judged.{names_differ}
use Rattle.ng_trace_plain.proofs.making.make_core.Goals as goal

pub new-requires-clause-names : goal.new-requires-clause-names
new-requires-clause-names g c κs within =
    names_differ (kinds_of g.B.Node.state c.args.stock.items) c.args.words.now c.requires.may.0
    c.in_ok-ports.ports.items (rw (sym c.as_slice.ensures) c.in_ok-ports.ensures) c.requires.may.1
