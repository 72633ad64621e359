use Rattle.std.proofs.Common.{refl}
use Rattle.ng_call.specs.Parts.{of_files}
use Rattle.ng_call.proofs.Files.{big_is_there}
use Rattle.ng_replay.proofs.Journals.{journal_big, journal_memory, journal_unread}
use Rattle.ng_trace_call.proofs.reading.read_journal_file.Goals as goal

pub returns-in-Err-Fault-clause-err : goal.returns-in-Err-Fault-clause-err
returns-in-Err-Fault-clause-err g c =
    journal_unread (of_files (g.F.Files.contents c.args.files.now) (g.F.Files.contents c.read_whole.new.files) (g.F.Files.faults c.args.files.now) (g.F.Files.faults c.read_whole.new.files))
    c.args.name.now (c.in-Err-Fault.ensures.fault (rw c.in-Err-Fault.field-0-is refl))

pub returns-in-Err-TooBig-clause-err : goal.returns-in-Err-TooBig-clause-err
returns-in-Err-TooBig-clause-err g c =
    journal_big (of_files (g.F.Files.contents c.args.files.now) (g.F.Files.contents c.read_whole.new.files) (g.F.Files.faults c.args.files.now) (g.F.Files.faults c.read_whole.new.files))
    c.args.name.now (big_is_there _ _ (rw c.in-Err-TooBig.field-0-is refl) c.in-Err-TooBig.ensures.missing)
    (c.in-Err-TooBig.ensures.too_big (rw c.in-Err-TooBig.field-0-is refl))

pub returns-in-Err-NoMemory-clause-err : goal.returns-in-Err-NoMemory-clause-err
returns-in-Err-NoMemory-clause-err g c =
    journal_memory (of_files (g.F.Files.contents c.args.files.now) (g.F.Files.contents c.read_whole.new.files) (g.F.Files.faults c.args.files.now) (g.F.Files.faults c.read_whole.new.files))
    c.args.name.now
