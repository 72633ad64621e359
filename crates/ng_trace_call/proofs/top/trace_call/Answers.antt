use Rattle.std.proofs.Common.{◌∙◌, Some, refl, sym}
use Rattle.ng_trace_call.specs.Words.{trace_words_of}
use Rattle.ng_call.specs.Called.{happened, kinds_of, texts}
use Rattle.ng_trace_call.proofs.Traced.{memory_ends, usage_ends}
use Rattle.ng_trace_call.proofs.Said.{in_form}
use Rattle.ng_trace_call.proofs.top.trace_call.Goals as goal

pub trace_said-requires-clause-form : goal.trace_said-requires-clause-form
trace_said-requires-clause-form g c κs within = in_form (texts c.args.words.now) _ (sym c.in-Ok-Some.ensures ∙ c.in-Ok-Some.field-0-is)

pub returns-in-Ok-None : goal.returns-in-Ok-None
returns-in-Ok-None g c =
    usage_ends (kinds_of g.B.Node.state c.args.stock.items) (trace_words_of (texts c.args.words.now))
    (happened g.O.Sink.contents g.O.Sink.faults g.F.Files.contents g.F.Files.faults c.args.out.now c.args.out.now c.args.files.now c.args.files.now)
    (sym c.in-Ok-None.ensures ∙ c.in-Ok-None.field-0-is) (record { sink = refl; files = refl })

pub returns-in-Err : goal.returns-in-Err
returns-in-Err g c =
    memory_ends (kinds_of g.B.Node.state c.args.stock.items) (trace_words_of (texts c.args.words.now))
    (happened g.O.Sink.contents g.O.Sink.faults g.F.Files.contents g.F.Files.faults c.args.out.now c.args.out.now c.args.files.now c.args.files.now)
    (record { sink = refl; files = refl })
