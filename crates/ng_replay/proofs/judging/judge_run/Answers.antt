use Rattle.std.proofs.Common.{sym}
use Rattle.ng_call.specs.Called.{kinds_of}
use Rattle.ng_replay.proofs.Judged.{inputs_fit, names_differ, world_is}
use Rattle.ng_replay.proofs.judging.judge_run.Goals as goal

-- the ports' names are those of the words
pub new-requires-clause-names : goal.new-requires-clause-names
new-requires-clause-names g c κs within =
    names_differ (kinds_of g.B.Node.state c.args.stock.items) c.args.words.now c.args.inputs.items
    c.in_ok-ports.ports.items (rw (sym c.as_slice.ensures) c.in_ok-ports.ensures) c.requires.may

pub judge-requires-clause-fits : goal.judge-requires-clause-fits
judge-requires-clause-fits g c κs within =
    inputs_fit (kinds_of g.B.Node.state c.args.stock.items) c.args.words.now c.args.inputs.items
    c.in_ok-core.core c.in_ok-ports.ports.items c.in_ok-core.ensures (rw (sym c.as_slice.ensures) c.in_ok-ports.ensures) c.requires.may

pub returns-clause-world : goal.returns-clause-world
returns-clause-world g c = λ yes.
    world_is (kinds_of g.B.Node.state c.args.stock.items) c.args.words.now c.args.inputs.items
    c.in_ok-core.core c.in_ok-ports.ports.items c.in_ok-core.ensures (rw (sym c.as_slice.ensures) c.in_ok-ports.ensures)
    c.args.journal.now.items c.judge.new.core (c.in_ok-verdict.ensures.stands yes)
