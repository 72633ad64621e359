use Rattle.std.proofs.Common.{◌≡◌, ◌∙◌, refl, sym, ap, subst, arith}
use Rattle.ng_replay.specs.judge.Verdict.{IsVerdict}
use Rattle.ng_replay.specs.declared.judge.verdict.Verdict.TheVariants as says
use Rattle.ng_call.specs.Run.{setting_of}
use Rattle.ng_call.proofs.Running.{early, few_captures, inputs_found, may_run}
use Rattle.ng_call.specs.Called.{kinds_of}
use Rattle.ng_replay.specs.Call.{run_of}
use Rattle.ng_trace_call.proofs.Tracing.{memory_ended, no_ends, put_stops, yes_ends, yes_of}
use Rattle.ng_trace_call.proofs.top.trace_read.Goals as goal

pub returns-in_default : goal.returns-in_default
returns-in_default g c = λ files before after all. memory_ended _ _ _ (record { sink = refl; files = refl })

pub inputs-requires-clause-few : goal.inputs-requires-clause-few
inputs-requires-clause-few g c = omega (
  arith,
  few_captures c.requires.read.0 (run_of c.args.words.now) c.args.read.given.script.script c.args.read.given.script.commands.items c.args.read.given.captures.items
      (kinds_of g.B.Node.state c.args.stock.items) c.requires.form.of_run c.requires.read.1.pass,
)

pub inputs-requires-clause-early : goal.inputs-requires-clause-early
inputs-requires-clause-early g c =
    early c.requires.read.0 (run_of c.args.words.now) c.args.read.given.script.script c.args.read.given.script.commands.items c.args.read.given.captures.items
    (kinds_of g.B.Node.state c.args.stock.items) c.requires.form.of_run c.requires.read.1.pass

pub trace_run-requires-clause-may : goal.trace_run-requires-clause-may
trace_run-requires-clause-may g c κs within =
    may_run c.requires.read.0 (run_of c.args.words.now) c.args.read.given.script.script c.args.read.given.script.commands.items c.args.read.given.captures.items
    (kinds_of g.B.Node.state c.args.stock.items) c.requires.form.of_run c.requires.read.1.pass
    c.know_inputs.ensures.held c.know_inputs.ensures.script c.know_inputs.ensures.fit c.know_inputs.ensures.timed c.in-Ok.inputs.items c.in-Ok.ensures

pub returns-in_default-trace_run : goal.returns-in_default-trace_run
returns-in_default-trace_run g c = λ files before after all. memory_ended _ _ _ (record { sink = refl; files = refl })

pub returns-in-No : goal.returns-in-No
returns-in-No g c = λ files before after all.
    no_ends
    (kinds_of g.B.Node.state c.args.stock.items) c.args.words.now files c.args.read.given.script.script c.args.read.given.script.commands.items c.args.read.given.captures.items
    c.args.read.journal.items all c.in-Ok.inputs.items
    (inputs_found files (run_of c.args.words.now) c.args.read.given.script.script c.args.read.given.script.commands.items c.args.read.given.captures.items
    (kinds_of g.B.Node.state c.args.stock.items) c.requires.form.of_run all.pass
    c.know_inputs.ensures.held c.know_inputs.ensures.script c.know_inputs.ensures.fit c.know_inputs.ensures.timed c.in-Ok.inputs.items c.in-Ok.ensures)
    _ _ before after _ _ c.in-No.at refl
    (subst (IsVerdict (setting_of (kinds_of g.B.Node.state c.args.stock.items) (run_of c.args.words.now) c.in-Ok.inputs.items) c.args.read.journal.items) c.in-No.is
    c.in-Ok-trace_run.ensures.verdict)

pub returns-in-Ok-put_all : goal.returns-in-Ok-put_all
returns-in-Ok-put_all g c = λ files before after all.
    let yes = yes_of c.in-Ok-trace_run.verdict c.in_default-verdict.not-No in
    yes_ends
    (kinds_of g.B.Node.state c.args.stock.items) c.args.words.now files c.args.read.given.script.script c.args.read.given.script.commands.items c.args.read.given.captures.items
    c.args.read.journal.items all c.in-Ok.inputs.items
    (inputs_found files (run_of c.args.words.now) c.args.read.given.script.script c.args.read.given.script.commands.items c.args.read.given.captures.items
    (kinds_of g.B.Node.state c.args.stock.items) c.requires.form.of_run all.pass
    c.know_inputs.ensures.held c.know_inputs.ensures.script c.know_inputs.ensures.fit c.know_inputs.ensures.timed c.in-Ok.inputs.items c.in-Ok.ensures)
    (g.O.Sink.contents c.args.out.now) (g.O.Sink.contents c.put_all.new.out) before after (g.O.Sink.faults c.args.out.now) (g.O.Sink.faults c.put_all.new.out)
    (subst (IsVerdict (setting_of (kinds_of g.B.Node.state c.args.stock.items) (run_of c.args.words.now) c.in-Ok.inputs.items) c.args.read.journal.items) yes
    c.in-Ok-trace_run.ensures.verdict)
    c.deref.result.now (c.deref.ensures.value ∙ c.in-Ok-trace_run.ensures.text yes) c.in-Ok-put_all.ensures.grown

pub returns : goal.returns
returns g c = λ files before after all.
    let yes = yes_of c.in-Ok-trace_run.verdict c.in_default-verdict.not-No in
    put_stops
    (kinds_of g.B.Node.state c.args.stock.items) c.args.words.now files c.args.read.given.script.script c.args.read.given.script.commands.items c.args.read.given.captures.items
    c.args.read.journal.items all c.in-Ok.inputs.items
    (inputs_found files (run_of c.args.words.now) c.args.read.given.script.script c.args.read.given.script.commands.items c.args.read.given.captures.items
    (kinds_of g.B.Node.state c.args.stock.items) c.requires.form.of_run all.pass
    c.know_inputs.ensures.held c.know_inputs.ensures.script c.know_inputs.ensures.fit c.know_inputs.ensures.timed c.in-Ok.inputs.items c.in-Ok.ensures)
    (g.O.Sink.contents c.args.out.now) (g.O.Sink.contents c.put_all.new.out) before after (g.O.Sink.faults c.args.out.now) (g.O.Sink.faults c.put_all.new.out)
    (subst (IsVerdict (setting_of (kinds_of g.B.Node.state c.args.stock.items) (run_of c.args.words.now) c.in-Ok.inputs.items) c.args.read.journal.items) yes
    c.in-Ok-trace_run.ensures.verdict)
    c.deref.result.now (c.deref.ensures.value ∙ c.in-Ok-trace_run.ensures.text yes) c.in-Err.ensures.cause c.in-Err.ensures.prefix
