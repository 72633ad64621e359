use Rattle.std.proofs.Common.{map, List, ap, refl, sym, ◌∙◌, subst}
use Rattle.ng_args.specs.declared.port.PortWord.{PortWord}
use Rattle.ng_args.specs.declared.words.Source.{Source}
use Rattle.ng_args.specs.declared.words.Source.TheVariants.{FromFiles}
use Rattle.ng_machine.specs.State.{kind_of}
use Rattle.ng_call.specs.Parts.{of_files, storing, outside, counting, AllStop}
use Rattle.ng_call.proofs.Reading.{memory_all}
use Rattle.ng_run.proofs.Ending.{ends_since, read_stops, memory_refuses}
use Rattle.ng_run.proofs.top.run_words.Goals as goal

pub returns-in-Ok : goal.returns-in-Ok
returns-in-Ok g c =
    ends_since (map (λ b. kind_of (g.B.Node.state b)) c.args.stock.items) c.args.words.now (g.O.Sink.contents c.args.out.now) (g.O.Sink.contents c.run_read.new.out)
    (g.F.Files.contents c.run_read.new.files) (g.O.Sink.faults c.args.out.now) (g.O.Sink.faults c.run_read.new.out)
    (g.F.Files.faults c.args.files.now) (g.F.Files.faults c.read_files.new.files) (g.F.Files.faults c.run_read.new.files) c.in-Ok.ensures.counts
    (g.F.Files.contents c.args.files.now) (g.F.Files.contents c.read_files.new.files)
    c.run_read.result.status c.run_read.result.journal.items c.run_read.result.fault c.in-Ok.ensures.same c.run_read.ensures

pub returns-in-Err : goal.returns-in-Err
returns-in-Err g c =
    read_stops (map (λ b. kind_of (g.B.Node.state b)) c.args.stock.items) c.args.words.now (g.O.Sink.contents c.args.out.now)
    (g.F.Files.contents c.args.files.now) (g.F.Files.contents c.read_files.new.files)
    (g.F.Files.faults c.args.files.now) (g.F.Files.faults c.read_files.new.files) (g.O.Sink.faults c.args.out.now)
    c.refused.result.status c.refused.result.journal.items c.refused.result.fault c.in-Err.fault
    (subst (λ (s : Source). AllStop (of_files (g.F.Files.contents c.args.files.now) (g.F.Files.contents c.read_files.new.files) (g.F.Files.faults c.args.files.now) (g.F.Files.faults c.read_files.new.files)) s c.in-Err.fault)
    (ap (λ (ps : List PortWord). FromFiles c.in-FromFiles.script ps) c.as_slice.ensures ∙ sym c.in-FromFiles.is) c.in-Err.ensures.err)
    c.in-Err.ensures.same c.refused.ensures.status c.refused.ensures.journal c.refused.ensures.fault

pub returns-in-Err-read_made : goal.returns-in-Err-read_made
returns-in-Err-read_made g c =
    let all = memory_all (outside (storing (g.O.Sink.contents c.args.out.now) (g.F.Files.contents c.args.files.now)) (storing (g.O.Sink.contents c.args.out.now) (g.F.Files.contents c.args.files.now))
    (counting (g.O.Sink.faults c.args.out.now) (g.F.Files.faults c.args.files.now)) (counting (g.O.Sink.faults c.args.out.now) (g.F.Files.faults c.args.files.now))) c.args.words.now.source in
    memory_refuses (map (λ b. kind_of (g.B.Node.state b)) c.args.stock.items) c.args.words.now
    (outside (storing (g.O.Sink.contents c.args.out.now) (g.F.Files.contents c.args.files.now)) (storing (g.O.Sink.contents c.args.out.now) (g.F.Files.contents c.args.files.now))
    (counting (g.O.Sink.faults c.args.out.now) (g.F.Files.faults c.args.files.now)) (counting (g.O.Sink.faults c.args.out.now) (g.F.Files.faults c.args.files.now)))
    all.0 all.1 (record { sink = refl; files = refl }) c.refused-in-Err-read_made.result.status c.refused-in-Err-read_made.result.journal.items
    c.refused-in-Err-read_made.result.fault c.refused-in-Err-read_made.ensures.status c.refused-in-Err-read_made.ensures.journal c.refused-in-Err-read_made.ensures.fault
