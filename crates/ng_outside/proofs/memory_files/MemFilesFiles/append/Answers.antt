use Rattle.std.proofs.Common.{◌++◌, length, take, rules}
use Rattle.ng_outside.proofs.Changes.{appended, others_hold}
use Rattle.ng_outside.proofs.memory_files.MemFilesFiles.append.Goals as goal

pub returns-then-count-gt0-clause-grown : goal.returns-then-count-gt0-clause-grown
returns-then-count-gt0-clause-grown c =
    appended c.args.self.now.files _ c.args.name.now (length c.args.bytes.now) (take c.append_named-count.result c.args.bytes.now) (grind rules) (grind rules)

pub returns-then-count-gt0-clause-others : goal.returns-then-count-gt0-clause-others
returns-then-count-gt0-clause-others c =
    others_hold c.args.self.now.files _ c.args.name.now (λ now. now ++ take c.append_named-count.result c.args.bytes.now) (grind rules)
