use Rattle.std.proofs.Common.{◌∙◌}
use Rattle.ng_run.proofs.Writing.{journal_written}
use Rattle.ng_run.proofs.write.write_journal.Goals as goal

pub returns-clause-ok : goal.returns-clause-ok
returns-clause-ok g c = λ sink.
    journal_written c.args.name.now c.as_str.result.now c.args.journal.now.items c.deref.result.now sink
    (g.F.Files.contents c.args.files.now) (g.F.Files.contents c.write_file.new.files)
    (rw c.as_str.ensures c.in-Some.is) (c.deref.ensures.value ∙ c.in-Ok.ensures)
    c.in_default-write_file.ensures.whole c.in_default-write_file.ensures.others
