use Rattle.std.proofs.Common.{◌∙◌, ap, sym}
use Rattle.ng_call.specs.Called.{kinds_of}
use Rattle.ng_machine.specs.World.{World}
use Rattle.ng_core.specs.CoreStory.{story}
use Rattle.ng_machine.specs.story.Story.{world_of}
use Rattle.ng_call.specs.Writes.{is_stopped}
use Rattle.ng_forecast.specs.Steps.{flights_of}
use Rattle.ng_forecast.proofs.Ending.{memory_refuses, packets_foretold, packets_refuse}
use Rattle.ng_forecast.proofs.top.foretell_read.Goals as goal

pub returns-in_default-clause-err : goal.returns-in_default-clause-err
returns-in_default-clause-err g c =
    memory_refuses (kinds_of g.B.Node.state c.args.stock.items) c.args.words.now c.args.read.script (flights_of c.args.read.captures.items)

pub returns-in-Ok-gather_captures-clause-ok : goal.returns-in-Ok-gather_captures-clause-ok
returns-in-Ok-gather_captures-clause-ok g c =
    packets_foretold (kinds_of g.B.Node.state c.args.stock.items) c.args.words.now c.args.read.script (flights_of c.args.read.captures.items)
    c.in-Ok.core.journal (world_of (story c.in-Ok.core)).nodes c.in-Ok-gather_captures.bag c.in-Ok.ensures.run
    (ap is_stopped (sym c.journal.ensures.journal) ∙ sym c.is_stopped.ensures ∙ c.if-is_stopped.false)
    (ap (λ (w : World). w.nodes) c.in-Ok.ensures.world) c.in-Ok-gather_captures.ensures.fine c.in-Ok-gather_captures.ensures.bag

pub returns-clause-err : goal.returns-clause-err
returns-clause-err g c =
    packets_refuse (kinds_of g.B.Node.state c.args.stock.items) c.args.words.now c.args.read.script (flights_of c.args.read.captures.items)
    c.in-Ok.core.journal (world_of (story c.in-Ok.core)).nodes c.in-Err.fault c.in-Ok.ensures.run
    (ap is_stopped (sym c.journal.ensures.journal) ∙ sym c.is_stopped.ensures ∙ c.if-is_stopped.false)
    (ap (λ (w : World). w.nodes) c.in-Ok.ensures.world) c.in-Err.ensures.err
