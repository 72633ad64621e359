use Rattle.std.proofs.Common.{◌∙◌, map, refl, ap, arith}
use Rattle.ng_pcap.specs.declared.capture.Capture.{Capture}
use Rattle.ng_machine.specs.State.{kind_of}
use Rattle.ng_core.specs.CoreStory.{story}
use Rattle.ng_machine.specs.story.Story.{world_of}
use Rattle.ng_call.specs.Parts.{storing, outside, counting}
use Rattle.ng_call.proofs.Running.{few_captures, cuts_many, may_run, inputs_found, all_printable, all_writable}
use Rattle.ng_run.proofs.Ending.{write_stops, all_done, memory_cuts}
use Rattle.ng_run.proofs.top.run_read.Goals as goal

pub inputs-requires-clause-few : goal.inputs-requires-clause-few
inputs-requires-clause-few g c =
    omega (
      arith,
      few_captures (g.F.Files.contents c.args.files.now) c.args.words.now c.args.read.script.script c.args.read.script.commands.items c.args.read.captures.items
          (map (λ b. kind_of (g.B.Node.state b)) c.args.stock.items) c.requires.form c.requires.read,
    )

pub run_core-requires-clause-may : goal.run_core-requires-clause-may
run_core-requires-clause-may g c κs within =
    may_run (g.F.Files.contents c.args.files.now) c.args.words.now c.args.read.script.script c.args.read.script.commands.items c.args.read.captures.items
    (map (λ b. kind_of (g.B.Node.state b)) c.args.stock.items) c.requires.form c.requires.read
    c.know_inputs.ensures.held c.know_inputs.ensures.script c.know_inputs.ensures.fit c.know_inputs.ensures.timed c.in-Ok-inputs.inputs.items c.in-Ok-inputs.ensures

pub write_all-wrote-requires-clause-printable : goal.write_all-wrote-requires-clause-printable
write_all-wrote-requires-clause-printable g c κs within =
    rw c.deref-2.ensures.value
    (all_printable (g.F.Files.contents c.args.files.now) c.args.words.now c.args.read.script.script c.args.read.script.commands.items c.args.read.captures.items
    (map (λ b. kind_of (g.B.Node.state b)) c.args.stock.items) c.requires.form c.requires.read
    c.know_inputs.ensures.held c.know_inputs.ensures.script c.know_inputs.ensures.fit c.know_inputs.ensures.timed c.in-Ok-inputs.inputs.items c.in-Ok-inputs.ensures
    c.know_run.ensures.told c.in-Ok-run_core.core.journal (world_of (story c.in-Ok-run_core.core)) c.in-Ok-run_core.ensures.run.orderly c.in-Ok-run_core.ensures.world)

pub write_all-wrote-requires-clause-writable : goal.write_all-wrote-requires-clause-writable
write_all-wrote-requires-clause-writable g c κs within =
    all_writable (g.F.Files.contents c.args.files.now) c.args.words.now c.args.read.script.script c.args.read.script.commands.items c.args.read.captures.items
    (map (λ b. kind_of (g.B.Node.state b)) c.args.stock.items) c.requires.form c.requires.read
    c.know_inputs.ensures.held c.know_inputs.ensures.script c.know_inputs.ensures.fit c.know_inputs.ensures.timed c.in-Ok-inputs.inputs.items c.in-Ok-inputs.ensures
    c.know_run.ensures.left c.in-Ok-run_core.core.journal (world_of (story c.in-Ok-run_core.core)) c.in-Ok-run_core.ensures.run.orderly c.in-Ok-run_core.ensures.world

pub write_all-wrote-requires-clause-cuts : goal.write_all-wrote-requires-clause-cuts
write_all-wrote-requires-clause-cuts g c κs within =
    cuts_many (g.F.Files.contents c.args.files.now) c.args.words.now c.args.read.script.script c.args.read.script.commands.items c.args.read.captures.items
    (map (λ b. kind_of (g.B.Node.state b)) c.args.stock.items) c.requires.form c.requires.read
    c.args.ports.now c.deref-3.result.now c.requires.ports (c.deref-3.ensures.value ∙ c.in-Ok.ensures ∙ ap (map (λ (capture : Capture). capture.cut)) c.deref.ensures.value)

-- memory ran out in the run, and nothing was written
pub returns-in-Err : goal.returns-in-Err
returns-in-Err g c =
    memory_cuts (map (λ b. kind_of (g.B.Node.state b)) c.args.stock.items) c.args.words.now
    (outside (storing (g.O.Sink.contents c.args.out.now) (g.F.Files.contents c.args.files.now)) (storing (g.O.Sink.contents c.args.out.now) (g.F.Files.contents c.args.files.now))
    (counting (g.O.Sink.faults c.args.out.now) (g.F.Files.faults c.args.files.now)) (counting (g.O.Sink.faults c.args.out.now) (g.F.Files.faults c.args.files.now)))
    c.requires.read.found c.requires.read.is_found c.requires.read.fine c.in-Ok-inputs.inputs.items
    (inputs_found (g.F.Files.contents c.args.files.now) c.args.words.now c.args.read.script.script c.args.read.script.commands.items c.args.read.captures.items
    (map (λ b. kind_of (g.B.Node.state b)) c.args.stock.items) c.requires.form c.requires.read
    c.know_inputs.ensures.held c.know_inputs.ensures.script c.know_inputs.ensures.fit c.know_inputs.ensures.timed c.in-Ok-inputs.inputs.items c.in-Ok-inputs.ensures)
    (record { sink = refl; files = refl }) c.in-Err.journal.items c.ended_by.result.journal.items c.in-Err.ensures.part
    c.ended_by.result.status c.ended_by.result.fault c.ended_by.ensures.status c.ended_by.ensures.journal c.ended_by.ensures.fault

pub returns-in-Ok-wrote : goal.returns-in-Ok-wrote
returns-in-Ok-wrote g c =
    all_done (map (λ b. kind_of (g.B.Node.state b)) c.args.stock.items) c.args.words.now
    (outside (storing (g.O.Sink.contents c.args.out.now) (g.F.Files.contents c.args.files.now)) (storing (g.O.Sink.contents c.write_all-wrote.new.out) (g.F.Files.contents c.write_all-wrote.new.files))
    (counting (g.O.Sink.faults c.args.out.now) (g.F.Files.faults c.args.files.now)) (counting (g.O.Sink.faults c.write_all-wrote.new.out) (g.F.Files.faults c.write_all-wrote.new.files)))
    c.requires.read.found c.requires.read.is_found c.requires.read.fine c.in-Ok-inputs.inputs.items
    (inputs_found (g.F.Files.contents c.args.files.now) c.args.words.now c.args.read.script.script c.args.read.script.commands.items c.args.read.captures.items
    (map (λ b. kind_of (g.B.Node.state b)) c.args.stock.items) c.requires.form c.requires.read
    c.know_inputs.ensures.held c.know_inputs.ensures.script c.know_inputs.ensures.fit c.know_inputs.ensures.timed c.in-Ok-inputs.inputs.items c.in-Ok-inputs.ensures)
    c.in-Ok-run_core.core.journal c.into_journal.result.items (world_of (story c.in-Ok-run_core.core)) c.in-Ok-run_core.ensures.run c.in-Ok-run_core.ensures.world c.into_journal.ensures
    c.deref-2.result.now (c.deref-2.ensures.value ∙ c.requires.read.commands_are) c.args.ports.now c.requires.ports
    c.deref-3.result.now ((c.deref-3.ensures.value ∙ c.in-Ok.ensures ∙ ap (map (λ (capture : Capture). capture.cut)) c.deref.ensures.value) ∙ ap (map (λ (capture : Capture). capture.cut)) c.requires.read.captures_are)
    c.len-of.result (omega (arith, c.len-of.ensures, c.in-Ok-inputs.inputs.ok.0))
    c.run_status-status.result c.run_status-status.ensures c.in-Ok-wrote.ensures.ok

pub returns : goal.returns
returns g c =
    write_stops (map (λ b. kind_of (g.B.Node.state b)) c.args.stock.items) c.args.words.now
    (outside (storing (g.O.Sink.contents c.args.out.now) (g.F.Files.contents c.args.files.now)) (storing (g.O.Sink.contents c.write_all-wrote.new.out) (g.F.Files.contents c.write_all-wrote.new.files))
    (counting (g.O.Sink.faults c.args.out.now) (g.F.Files.faults c.args.files.now)) (counting (g.O.Sink.faults c.write_all-wrote.new.out) (g.F.Files.faults c.write_all-wrote.new.files)))
    c.requires.read.found c.requires.read.is_found c.requires.read.fine c.in-Ok-inputs.inputs.items
    (inputs_found (g.F.Files.contents c.args.files.now) c.args.words.now c.args.read.script.script c.args.read.script.commands.items c.args.read.captures.items
    (map (λ b. kind_of (g.B.Node.state b)) c.args.stock.items) c.requires.form c.requires.read
    c.know_inputs.ensures.held c.know_inputs.ensures.script c.know_inputs.ensures.fit c.know_inputs.ensures.timed c.in-Ok-inputs.inputs.items c.in-Ok-inputs.ensures)
    c.in-Ok-run_core.core.journal c.into_journal-in-Err-wrote.result.items (world_of (story c.in-Ok-run_core.core)) c.in-Ok-run_core.ensures.run c.in-Ok-run_core.ensures.world c.into_journal-in-Err-wrote.ensures
    c.deref-2.result.now (c.deref-2.ensures.value ∙ c.requires.read.commands_are) c.args.ports.now c.requires.ports
    c.deref-3.result.now ((c.deref-3.ensures.value ∙ c.in-Ok.ensures ∙ ap (map (λ (capture : Capture). capture.cut)) c.deref.ensures.value) ∙ ap (map (λ (capture : Capture). capture.cut)) c.requires.read.captures_are)
    c.len-of.result (omega (arith, c.len-of.ensures, c.in-Ok-inputs.inputs.ok.0))
    c.fault_status.result c.in-Err-wrote.fault c.fault_status.ensures c.in-Err-wrote.ensures.err
