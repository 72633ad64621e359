use Rattle.std.proofs.Common.{◌∙◌, Option, sym, ap, subst}
use Rattle.ng_trace_call.specs.Words.{trace_words_of}
use Rattle.ng_call.specs.Called.{happened, kinds_of, texts}
use Rattle.ng_call.specs.ending.Outside.{Outside}
use Rattle.ng_trace_call.specs.Traced.{TracedEnds}
use Rattle.ng_replay.specs.Faults.{status_of}
use Rattle.ng_replay.specs.declared.ended.ReplayFault.{ReplayFault}
use Rattle.ng_trace_call.proofs.Traced.{is_traced}
use Rattle.ng_trace_call.proofs.top.ngtrace.Goals as goal

pub returns : goal.returns
returns g c =
    let kinds = kinds_of g.B.Node.state c.args.stock.items in
    let said = trace_words_of (texts c.args.words.now) in
    let o : Outside =
    happened g.O.Sink.contents g.O.Sink.faults g.F.Files.contents g.F.Files.faults c.args.out.now c.trace_call.new.out c.args.files.now c.trace_call.new.files in
    is_traced kinds said o c.ended_by.result (c.ended_by.ensures.status ∙ ap status_of (sym c.ended_by.ensures.fault))
    (subst (λ (f : Option ReplayFault). TracedEnds kinds said o f) (sym c.ended_by.ensures.fault) c.trace_call.ensures)
