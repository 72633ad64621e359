use Rattle.std.proofs.Common.{refl, subst, arith}
use Rattle.std.specs.Io.KnownBytes.{Appends}
use Rattle.ng_outside.specs.Write.{AppendsPrefix}
use Rattle.ng_call.proofs.Running.{early, few_captures, inputs_found, may_run}
use Rattle.ng_call.specs.Called.{kinds_of}
use Rattle.ng_trace_call.specs.Words.{bare_of}
use Rattle.ng_trace_call.proofs.PlainTracing.{memory_ended, put_ends, put_stops}
use Rattle.ng_trace_call.proofs.top.plain_read.Goals as goal

pub returns-in_default : goal.returns-in_default
returns-in_default g c = λ files before after all. memory_ended _ _ _ (record { sink = refl; files = refl })

pub inputs-requires-clause-few : goal.inputs-requires-clause-few
inputs-requires-clause-few g c = omega (
  arith,
  few_captures c.requires.read.0 (bare_of c.args.words.now) c.args.read.script.script c.args.read.script.commands.items c.args.read.captures.items
      (kinds_of g.B.Node.state c.args.stock.items) c.requires.form.of_run c.requires.read.1,
)

pub inputs-requires-clause-early : goal.inputs-requires-clause-early
inputs-requires-clause-early g c =
    early c.requires.read.0 (bare_of c.args.words.now) c.args.read.script.script c.args.read.script.commands.items c.args.read.captures.items
    (kinds_of g.B.Node.state c.args.stock.items) c.requires.form.of_run c.requires.read.1

pub trace_plainly-requires-clause-may : goal.trace_plainly-requires-clause-may
trace_plainly-requires-clause-may g c κs within =
    may_run c.requires.read.0 (bare_of c.args.words.now) c.args.read.script.script c.args.read.script.commands.items c.args.read.captures.items
    (kinds_of g.B.Node.state c.args.stock.items) c.requires.form.of_run c.requires.read.1
    c.know_inputs.ensures.held c.know_inputs.ensures.script c.know_inputs.ensures.fit c.know_inputs.ensures.timed c.in-Ok.inputs.items c.in-Ok.ensures

pub returns-in_default-trace_plainly : goal.returns-in_default-trace_plainly
returns-in_default-trace_plainly g c = λ files before after all. memory_ended _ _ _ (record { sink = refl; files = refl })

pub returns-in-Ok-put_all : goal.returns-in-Ok-put_all
returns-in-Ok-put_all g c = λ files before after all.
    put_ends (kinds_of g.B.Node.state c.args.stock.items) c.args.words.now files c.args.read.script.script c.args.read.script.commands.items c.args.read.captures.items
    all c.in-Ok.inputs.items
    (inputs_found files (bare_of c.args.words.now) c.args.read.script.script c.args.read.script.commands.items c.args.read.captures.items
    (kinds_of g.B.Node.state c.args.stock.items) c.requires.form.of_run all
    c.know_inputs.ensures.held c.know_inputs.ensures.script c.know_inputs.ensures.fit c.know_inputs.ensures.timed c.in-Ok.inputs.items c.in-Ok.ensures)
    (g.O.Sink.contents c.args.out.now) (g.O.Sink.contents c.put_all.new.out) before after (g.O.Sink.faults c.args.out.now) (g.O.Sink.faults c.put_all.new.out)
    c.in-Ok-trace_plainly.told.items c.in-Ok-trace_plainly.ensures (subst (Appends (g.O.Sink.contents c.args.out.now) (g.O.Sink.contents c.put_all.new.out)) c.deref.ensures.value c.in-Ok-put_all.ensures.grown)

pub returns : goal.returns
returns g c = λ files before after all.
    put_stops (kinds_of g.B.Node.state c.args.stock.items) c.args.words.now files c.args.read.script.script c.args.read.script.commands.items c.args.read.captures.items
    all c.in-Ok.inputs.items
    (inputs_found files (bare_of c.args.words.now) c.args.read.script.script c.args.read.script.commands.items c.args.read.captures.items
    (kinds_of g.B.Node.state c.args.stock.items) c.requires.form.of_run all
    c.know_inputs.ensures.held c.know_inputs.ensures.script c.know_inputs.ensures.fit c.know_inputs.ensures.timed c.in-Ok.inputs.items c.in-Ok.ensures)
    (g.O.Sink.contents c.args.out.now) (g.O.Sink.contents c.put_all.new.out) before after (g.O.Sink.faults c.args.out.now) (g.O.Sink.faults c.put_all.new.out)
    c.in-Ok-trace_plainly.told.items c.in-Ok-trace_plainly.ensures c.in-Err.ensures.cause (subst (AppendsPrefix (g.O.Sink.contents c.args.out.now) (g.O.Sink.contents c.put_all.new.out)) c.deref.ensures.value c.in-Err.ensures.prefix)
