use Rattle.std.proofs.Common.{rules, IfSome}
use Rattle.ng_outside.specs.Memory.{file_named, Gives}
use Rattle.ng_outside.proofs.Moves.{named_reads}
use Rattle.ng_outside.proofs.memory_files.MemFilesFiles.read.Goals as goal

pub returns-in-Some-clause-bytes : goal.returns-in-Some-clause-bytes
returns-in-Some-clause-bytes c =
    let gives : IfSome (file_named c.args.self.now.files c.args.name.now)
    (λ file. Gives file c.args.at c.args.into.now c.copy_from.new.into c.copy_from.result) =
    search rules in
    named_reads _ _ _ _ _ c.requires gives
