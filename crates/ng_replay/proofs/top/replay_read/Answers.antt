use Rattle.std.proofs.Common.{◌∙◌, map, refl, ap, subst, arith}
use Rattle.ng_replay.specs.judge.Verdict.{IsVerdict}
use Rattle.ng_pcap.specs.declared.capture.Capture.{Capture}
use Rattle.ng_core.specs.CoreStory.{story}
use Rattle.ng_machine.specs.story.Story.{world_of}
use Rattle.ng_call.specs.Run.{setting_of}
use Rattle.ng_call.proofs.Running.{all_printable, cuts_many, early, few_captures, inputs_found, may_run}
use Rattle.ng_call.specs.Called.{kinds_of}
use Rattle.ng_replay.specs.Call.{run_of}
use Rattle.ng_replay.proofs.Replaying.{memory_ended, memory_failed, no_ends, printed, sink_failed, yes_of}
use Rattle.ng_replay.proofs.top.replay_read.Goals as goal

pub returns-in_default : goal.returns-in_default
returns-in_default g c = λ files before after all. memory_ended _ _ _ (record { sink = refl; files = refl })

pub inputs-requires-clause-few : goal.inputs-requires-clause-few
inputs-requires-clause-few g c = omega (
  arith,
  few_captures c.requires.read.0 (run_of c.args.words.now) c.args.read.given.script.script c.args.read.given.script.commands.items c.args.read.given.captures.items
      (kinds_of g.B.Node.state c.args.stock.items) c.requires.form.of_run c.requires.read.1.pass,
)

pub inputs-requires-clause-early : goal.inputs-requires-clause-early
inputs-requires-clause-early g c =
    early c.requires.read.0 (run_of c.args.words.now) c.args.read.given.script.script c.args.read.given.script.commands.items c.args.read.given.captures.items
    (kinds_of g.B.Node.state c.args.stock.items) c.requires.form.of_run c.requires.read.1.pass

pub returns-in_default-inputs : goal.returns-in_default-inputs
returns-in_default-inputs g c = λ files before after all. memory_ended _ _ _ (record { sink = refl; files = refl })

pub judge_run-requires-clause-may : goal.judge_run-requires-clause-may
judge_run-requires-clause-may g c κs within =
    may_run c.requires.read.0 (run_of c.args.words.now) c.args.read.given.script.script c.args.read.given.script.commands.items c.args.read.given.captures.items
    (kinds_of g.B.Node.state c.args.stock.items) c.requires.form.of_run c.requires.read.1.pass
    c.know_inputs.ensures.held c.know_inputs.ensures.script c.know_inputs.ensures.fit c.know_inputs.ensures.timed c.in-Ok-inputs.inputs.items c.in-Ok-inputs.ensures

pub returns-in_default-judge_run : goal.returns-in_default-judge_run
returns-in_default-judge_run g c = λ files before after all. memory_ended _ _ _ (record { sink = refl; files = refl })

pub returns-in-No : goal.returns-in-No
returns-in-No g c = λ files before after all.
    no_ends
    (kinds_of g.B.Node.state c.args.stock.items) c.args.words.now files c.args.read.given.script.script c.args.read.given.script.commands.items c.args.read.given.captures.items
    c.args.read.journal.items all c.in-Ok-inputs.inputs.items
    (inputs_found files (run_of c.args.words.now) c.args.read.given.script.script c.args.read.given.script.commands.items c.args.read.given.captures.items
    (kinds_of g.B.Node.state c.args.stock.items) c.requires.form.of_run all.pass
    c.know_inputs.ensures.held c.know_inputs.ensures.script c.know_inputs.ensures.fit c.know_inputs.ensures.timed c.in-Ok-inputs.inputs.items c.in-Ok-inputs.ensures)
    _ _ before after _ _ c.in-No.at refl
    (subst (IsVerdict (setting_of (kinds_of g.B.Node.state c.args.stock.items) (run_of c.args.words.now) c.in-Ok-inputs.inputs.items) c.args.read.journal.items) c.in-No.is
    c.in-Ok-judge_run.ensures.verdict)

pub print_core-requires-clause-printable : goal.print_core-requires-clause-printable
print_core-requires-clause-printable g c κs within =
    let yes = yes_of c.in-Ok-judge_run.verdict c.in_default-verdict.not-No in
    let is = subst (IsVerdict (setting_of (kinds_of g.B.Node.state c.args.stock.items) (run_of c.args.words.now) c.in-Ok-inputs.inputs.items) c.args.read.journal.items) yes c.in-Ok-judge_run.ensures.verdict in
    rw c.deref-2.ensures.value
    (all_printable c.requires.read.0 (run_of c.args.words.now) c.args.read.given.script.script c.args.read.given.script.commands.items c.args.read.given.captures.items
    (kinds_of g.B.Node.state c.args.stock.items) c.requires.form.of_run c.requires.read.1.pass
    c.know_inputs.ensures.held c.know_inputs.ensures.script c.know_inputs.ensures.fit c.know_inputs.ensures.timed c.in-Ok-inputs.inputs.items c.in-Ok-inputs.ensures
    c.told_is_printable.ensures c.args.read.journal.items (world_of (story c.in-Ok-judge_run.core)) is.0 (c.in-Ok-judge_run.ensures.world yes))

pub print_core-requires-clause-cuts : goal.print_core-requires-clause-cuts
print_core-requires-clause-cuts g c κs within =
    cuts_many c.requires.read.0 (run_of c.args.words.now) c.args.read.given.script.script c.args.read.given.script.commands.items c.args.read.given.captures.items
    (kinds_of g.B.Node.state c.args.stock.items) c.requires.form.of_run c.requires.read.1.pass
    c.as_slice-ports.result.now c.deref-3.result.now c.as_slice-ports.ensures
    (c.deref-3.ensures.value ∙ c.in-Ok.ensures ∙ ap (map (λ (capture : Capture). capture.cut)) c.deref.ensures.value)

pub returns-in-Ok-print_core : goal.returns-in-Ok-print_core
returns-in-Ok-print_core g c = λ files before after all.
    let yes = yes_of c.in-Ok-judge_run.verdict c.in_default-verdict.not-No in
    printed
    (kinds_of g.B.Node.state c.args.stock.items) c.args.words.now files c.args.read.given.script.script c.args.read.given.script.commands.items c.args.read.given.captures.items
    c.args.read.journal.items all c.in-Ok-inputs.inputs.items
    (inputs_found files (run_of c.args.words.now) c.args.read.given.script.script c.args.read.given.script.commands.items c.args.read.given.captures.items
    (kinds_of g.B.Node.state c.args.stock.items) c.requires.form.of_run all.pass
    c.know_inputs.ensures.held c.know_inputs.ensures.script c.know_inputs.ensures.fit c.know_inputs.ensures.timed c.in-Ok-inputs.inputs.items c.in-Ok-inputs.ensures)
    (g.O.Sink.contents c.args.out.now) (g.O.Sink.contents c.print_core.new.out) before after (g.O.Sink.faults c.args.out.now) (g.O.Sink.faults c.print_core.new.out)
    (subst (IsVerdict (setting_of (kinds_of g.B.Node.state c.args.stock.items) (run_of c.args.words.now) c.in-Ok-inputs.inputs.items) c.args.read.journal.items) yes
    c.in-Ok-judge_run.ensures.verdict)
    (world_of (story c.in-Ok-judge_run.core))
    (c.in-Ok-judge_run.ensures.world yes)
    c.as_slice-ports.result.now c.as_slice-ports.ensures c.deref-3.result.now
    (c.deref-3.ensures.value ∙ c.in-Ok.ensures ∙ ap (map (λ (capture : Capture). capture.cut)) (c.deref.ensures.value ∙ all.pass.captures_are))
    c.deref-2.result.now (c.deref-2.ensures.value ∙ all.pass.commands_are) c.len-of.result (omega (arith, c.len-of.ensures, c.in-Ok-inputs.inputs.ok.0))
    c.args.read.journal.items refl c.print_core.result c.print_core.ensures c.in-Ok-print_core.field-0 c.in-Ok-print_core.is

pub returns-in-Err-Fault : goal.returns-in-Err-Fault
returns-in-Err-Fault g c = λ files before after all.
    let yes = yes_of c.in-Ok-judge_run.verdict c.in_default-verdict.not-No in
    sink_failed
    (kinds_of g.B.Node.state c.args.stock.items) c.args.words.now files c.args.read.given.script.script c.args.read.given.script.commands.items c.args.read.given.captures.items
    c.args.read.journal.items all c.in-Ok-inputs.inputs.items
    (inputs_found files (run_of c.args.words.now) c.args.read.given.script.script c.args.read.given.script.commands.items c.args.read.given.captures.items
    (kinds_of g.B.Node.state c.args.stock.items) c.requires.form.of_run all.pass
    c.know_inputs.ensures.held c.know_inputs.ensures.script c.know_inputs.ensures.fit c.know_inputs.ensures.timed c.in-Ok-inputs.inputs.items c.in-Ok-inputs.ensures)
    (g.O.Sink.contents c.args.out.now) (g.O.Sink.contents c.print_core.new.out) before after (g.O.Sink.faults c.args.out.now) (g.O.Sink.faults c.print_core.new.out)
    (subst (IsVerdict (setting_of (kinds_of g.B.Node.state c.args.stock.items) (run_of c.args.words.now) c.in-Ok-inputs.inputs.items) c.args.read.journal.items) yes
    c.in-Ok-judge_run.ensures.verdict)
    (world_of (story c.in-Ok-judge_run.core))
    (c.in-Ok-judge_run.ensures.world yes)
    c.as_slice-ports.result.now c.as_slice-ports.ensures c.deref-3.result.now
    (c.deref-3.ensures.value ∙ c.in-Ok.ensures ∙ ap (map (λ (capture : Capture). capture.cut)) (c.deref.ensures.value ∙ all.pass.captures_are))
    c.deref-2.result.now (c.deref-2.ensures.value ∙ all.pass.commands_are) c.len-of.result (omega (arith, c.len-of.ensures, c.in-Ok-inputs.inputs.ok.0))
    c.args.read.journal.items refl c.print_core.result c.print_core.ensures c.in-Err-Fault.field-0 c.in-Err-Fault.is c.in-Err-Fault.field-0-is

pub returns : goal.returns
returns g c = λ files before after all.
    let yes = yes_of c.in-Ok-judge_run.verdict c.in_default-verdict.not-No in
    memory_failed
    (kinds_of g.B.Node.state c.args.stock.items) c.args.words.now files c.args.read.given.script.script c.args.read.given.script.commands.items c.args.read.given.captures.items
    c.args.read.journal.items all c.in-Ok-inputs.inputs.items
    (inputs_found files (run_of c.args.words.now) c.args.read.given.script.script c.args.read.given.script.commands.items c.args.read.given.captures.items
    (kinds_of g.B.Node.state c.args.stock.items) c.requires.form.of_run all.pass
    c.know_inputs.ensures.held c.know_inputs.ensures.script c.know_inputs.ensures.fit c.know_inputs.ensures.timed c.in-Ok-inputs.inputs.items c.in-Ok-inputs.ensures)
    (g.O.Sink.contents c.args.out.now) (g.O.Sink.contents c.print_core.new.out) before after (g.O.Sink.faults c.args.out.now) (g.O.Sink.faults c.print_core.new.out)
    (subst (IsVerdict (setting_of (kinds_of g.B.Node.state c.args.stock.items) (run_of c.args.words.now) c.in-Ok-inputs.inputs.items) c.args.read.journal.items) yes
    c.in-Ok-judge_run.ensures.verdict)
    (world_of (story c.in-Ok-judge_run.core))
    (c.in-Ok-judge_run.ensures.world yes)
    c.as_slice-ports.result.now c.as_slice-ports.ensures c.deref-3.result.now
    (c.deref-3.ensures.value ∙ c.in-Ok.ensures ∙ ap (map (λ (capture : Capture). capture.cut)) (c.deref.ensures.value ∙ all.pass.captures_are))
    c.deref-2.result.now (c.deref-2.ensures.value ∙ all.pass.commands_are) c.len-of.result (omega (arith, c.len-of.ensures, c.in-Ok-inputs.inputs.ok.0))
    c.args.read.journal.items refl c.print_core.result c.print_core.ensures c.in-Err-NoMemory.field-0 c.in-Err-NoMemory.is
