use Rattle.std.proofs.Common.{ℕ, List, subst}
use Rattle.ng_args.specs.declared.port.PortWord.{PortWord}
use Rattle.ng_args.specs.declared.words.Source.TheVariants.{FromFiles}
use Rattle.ng_call.specs.Found.{IsRead}
use Rattle.ng_call.specs.Parts.{AllPass, AllStop, of_files}
use Rattle.ng_replay.specs.Call.{journal_steps}
use Rattle.ng_replay.specs.Parts.{Stops}
use Rattle.ng_replay.proofs.ReadAll.{given_stops, journal_stops}
use Rattle.ng_trace_call.proofs.reading.read_all.Goals as goal

pub returns-in-Err-clause-err : goal.returns-in-Err-clause-err
returns-in-Err-clause-err g c =
    rw c.replay_fault.ensures
    (given_stops (of_files (g.F.Files.contents c.args.files.now) (g.F.Files.contents c.read_files.new.files) (g.F.Files.faults c.args.files.now) (g.F.Files.faults c.read_files.new.files))
    c.args.words.now c.in-Err.fault
    (subst (λ (ports : List PortWord). AllStop (of_files (g.F.Files.contents c.args.files.now) (g.F.Files.contents c.read_files.new.files) (g.F.Files.faults c.args.files.now) (g.F.Files.faults c.read_files.new.files))
    (FromFiles c.args.words.now.script ports) c.in-Err.fault)
    c.as_slice.ensures c.in-Err.ensures.err))

pub returns-in-Err-read_journal_file-clause-err : goal.returns-in-Err-read_journal_file-clause-err
returns-in-Err-read_journal_file-clause-err g c =
    let pass = subst (λ (ports : List PortWord). AllPass (g.F.Files.contents c.args.files.now) (FromFiles c.args.words.now.script ports)
    c.in-Ok.given.script.script c.in-Ok.given.script.commands.items c.in-Ok.given.captures.items) c.as_slice.ensures c.in-Ok.ensures.ok in
    let stopped = subst (λ (name : List ℕ). (bytes : List ℕ) × IsRead (g.F.Files.contents c.read_files.new.files name) bytes
    × Stops (of_files (g.F.Files.contents c.read_files.new.files) (g.F.Files.contents c.read_journal_file.new.files) (g.F.Files.faults c.read_files.new.files) (g.F.Files.faults c.read_journal_file.new.files))
    (journal_steps name bytes) c.in-Err-read_journal_file.fault) c.as_str.ensures c.in-Err-read_journal_file.ensures.err in
    journal_stops (g.F.Files.contents c.args.files.now) (g.F.Files.contents c.read_files.new.files) (g.F.Files.contents c.read_journal_file.new.files)
    (g.F.Files.faults c.args.files.now) (g.F.Files.faults c.read_files.new.files) (g.F.Files.faults c.read_journal_file.new.files)
    c.args.words.now c.in-Ok.given.script.script c.in-Ok.given.script.commands.items c.in-Ok.given.captures.items
    c.in-Ok.ensures.same c.in-Ok.ensures.counts pass c.in-Err-read_journal_file.fault stopped.0 stopped.1 stopped.2
