use Rattle.std.proofs.Common.{[], rules}
use Rattle.ng_outside.proofs.Changes.{emptied, others_hold}
use Rattle.ng_outside.proofs.memory_files.MemFilesFiles.fresh.Goals as goal

pub returns-then-empty_named-clause-empty : goal.returns-then-empty_named-clause-empty
returns-then-empty_named-clause-empty c =
    emptied c.args.self.now.files _ c.args.name.now (grind rules) (grind rules)

pub returns-then-empty_named-clause-others : goal.returns-then-empty_named-clause-others
returns-then-empty_named-clause-others c =
    others_hold c.args.self.now.files _ c.args.name.now (λ _. []) (grind rules)
