use Rattle.std.proofs.Common.{List, subst}
use Rattle.std.specs.List.{list_any}
use Rattle.ng_base.specs.declared.event.Event.{Event}
use Rattle.ng_call.specs.ending.Writes.{WritesAll, StopsAt, StopsFor}
use Rattle.ngctl_print.specs.whole.Text.{world_text}
use Rattle.ng_core.specs.CoreStory.{story}
use Rattle.ng_machine.specs.story.Story.{world_of}
use Rattle.ng_call.specs.declared.ended.Fault.TheVariants.{NoMemory}
use Rattle.ng_call.specs.Parts.{of_files, storing}
use Rattle.ng_call.specs.Writes.{is_stop, shown_by, out_writes, journal_writes}
use Rattle.ng_run.proofs.Writing.{all_written, outs_stop, journal_stops}
use Rattle.ng_run.proofs.write.write_all.Goals as goal

pub returns-in-Err-clause-err : goal.returns-in-Err-clause-err
returns-in-Err-clause-err g c =
    outs_stop
    (world_text c.args.commands.now (shown_by c.args.ports.now c.args.cuts.now) c.args.of (world_of (story c.args.core.now)) (list_any is_stop c.args.core.now.journal))
    (out_writes 0 c.args.ports.now (world_of (story c.args.core.now)).ports)
    (journal_writes c.args.journal_name.now c.args.core.now.journal)
    (g.O.Sink.contents c.args.out.now) (g.O.Sink.contents c.print_run.new.out) (g.F.Files.contents c.args.files.now) c.in-Ok.ensures.whole
    (g.F.Files.contents c.write_outs.new.files) (g.F.Files.faults c.args.files.now) (g.F.Files.faults c.write_outs.new.files)
    (g.O.Sink.faults c.args.out.now) (g.O.Sink.faults c.print_run.new.out) c.in-Err.fault (c.in-Err.ensures.err (g.O.Sink.contents c.print_run.new.out))

pub returns-in-Ok-write_journal-clause-ok : goal.returns-in-Ok-write_journal-clause-ok
returns-in-Ok-write_journal-clause-ok g c =
    all_written
    (world_text c.args.commands.now (shown_by c.args.ports.now c.args.cuts.now) c.args.of (world_of (story c.args.core.now)) (list_any is_stop c.args.core.now.journal))
    (out_writes 0 c.args.ports.now (world_of (story c.args.core.now)).ports)
    (journal_writes c.args.journal_name.now c.args.core.now.journal)
    (g.O.Sink.contents c.args.out.now) (g.O.Sink.contents c.print_run.new.out) (g.F.Files.contents c.args.files.now) c.in-Ok.ensures.whole
    (g.F.Files.contents c.write_outs.new.files) (g.F.Files.contents c.write_journal.new.files)
    (c.in_default.ensures.ok (g.O.Sink.contents c.print_run.new.out))
    (subst (λ (events : List Event). WritesAll (journal_writes c.args.journal_name.now events)
    (storing (g.O.Sink.contents c.print_run.new.out) (g.F.Files.contents c.write_outs.new.files))
    (storing (g.O.Sink.contents c.print_run.new.out) (g.F.Files.contents c.write_journal.new.files)))
    c.journal.ensures.journal (c.in-Ok-write_journal.ensures.ok (g.O.Sink.contents c.print_run.new.out)))

pub returns-in-Err-write_journal-clause-err : goal.returns-in-Err-write_journal-clause-err
returns-in-Err-write_journal-clause-err g c =
    journal_stops
    (world_text c.args.commands.now (shown_by c.args.ports.now c.args.cuts.now) c.args.of (world_of (story c.args.core.now)) (list_any is_stop c.args.core.now.journal))
    (out_writes 0 c.args.ports.now (world_of (story c.args.core.now)).ports)
    (journal_writes c.args.journal_name.now c.args.core.now.journal)
    (g.O.Sink.contents c.args.out.now) (g.O.Sink.contents c.print_run.new.out) (g.F.Files.contents c.args.files.now) c.in-Ok.ensures.whole
    (g.F.Files.contents c.write_outs.new.files) (g.F.Files.contents c.write_journal.new.files)
    (g.F.Files.faults c.args.files.now) (g.F.Files.faults c.write_outs.new.files) (g.F.Files.faults c.write_journal.new.files)
    (g.O.Sink.faults c.args.out.now) (g.O.Sink.faults c.print_run.new.out) c.in-Err-write_journal.fault c.in_default.ensures.counts
    (c.in_default.ensures.ok (g.O.Sink.contents c.print_run.new.out))
    (subst (λ (events : List Event). StopsAt (StopsFor NoMemory
    (of_files (g.F.Files.contents c.write_outs.new.files) (g.F.Files.contents c.write_journal.new.files) (g.F.Files.faults c.write_outs.new.files) (g.F.Files.faults c.write_journal.new.files))
    c.in-Err-write_journal.fault) (journal_writes c.args.journal_name.now events)
    (storing (g.O.Sink.contents c.print_run.new.out) (g.F.Files.contents c.write_outs.new.files))
    (storing (g.O.Sink.contents c.print_run.new.out) (g.F.Files.contents c.write_journal.new.files)))
    c.journal.ensures.journal (c.in-Err-write_journal.ensures.err (g.O.Sink.contents c.print_run.new.out)))
