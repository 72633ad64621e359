-- The kinds of the blank nodes are those of the stock.
use Rattle.std.proofs.Common.{List, subst}
use Rattle.ng_base.specs.declared.kind.Kind.{Kind}
use Rattle.ng_call.specs.Called.{happened, texts}
use Rattle.ng_trace_call.specs.Traced.{IsTraced}
use Rattle.ng_trace_call.specs.Words.{trace_words_of}
use Rattle.ngtrace.proofs.stocked.trace_stocked.Goals as goal

pub returns-clause-traced : goal.returns-clause-traced
returns-clause-traced g c =
    subst
    (λ (kinds : List Kind). IsTraced kinds (trace_words_of (texts c.args.words.now))
    (happened g.O.Sink.contents g.O.Sink.faults g.F.Files.contents g.F.Files.faults c.args.out.now c.ngtrace.new.out c.args.files.now c.ngtrace.new.files)
    c.ngtrace.result)
    c.in_ok-first.ensures.kinds c.ngtrace.ensures
