use Rattle.std.proofs.Common.{Some, sym, subst}
use Rattle.ng_call.specs.Called.{happened, kinds_of}
use Rattle.ng_trace_call.specs.Traced.{SaidInForm, TracedEnds}
use Rattle.ng_trace_call.specs.declared.words.TraceWords.{TraceWords}
use Rattle.ng_trace_call.proofs.top.trace_said.Goals as goal

pub trace_words-requires-clause-form : goal.trace_words-requires-clause-form
trace_words-requires-clause-form g c κs within = subst SaidInForm c.in-Follow.is c.requires.form

pub plain_words-requires-clause-form : goal.plain_words-requires-clause-form
plain_words-requires-clause-form g c κs within = subst SaidInForm c.in-Plain.is c.requires.form

pub returns-in-Follow : goal.returns-in-Follow
returns-in-Follow g c =
    subst (λ (s : TraceWords). TracedEnds (kinds_of g.B.Node.state c.args.stock.items) (Some s)
    (happened g.O.Sink.contents g.O.Sink.faults g.F.Files.contents g.F.Files.faults c.args.out.now c.trace_words.new.out c.args.files.now c.trace_words.new.files)
    c.trace_words.result) (sym c.in-Follow.is) c.trace_words.ensures

pub returns-in-Plain : goal.returns-in-Plain
returns-in-Plain g c =
    subst (λ (s : TraceWords). TracedEnds (kinds_of g.B.Node.state c.args.stock.items) (Some s)
    (happened g.O.Sink.contents g.O.Sink.faults g.F.Files.contents g.F.Files.faults c.args.out.now c.plain_words.new.out c.args.files.now c.plain_words.new.files)
    c.plain_words.result) (sym c.in-Plain.is) c.plain_words.ensures
