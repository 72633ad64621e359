-- What is set is what the arguments say.
use Rattle.std.proofs.Common.{◌∙◌}
use Rattle.ng_filter_types.proofs.bpf.Replies.{program_set}
use Rattle.ng_filter_types.proofs.bpf.messages.set_program.Goals as goal

pub returns-in-Ok-clause-after : goal.returns-in-Ok-clause-after
returns-in-Ok-clause-after c =
    let read = rw c.in-Ok.is at c.in_ok-way.ensures in
    c.set_way.ensures.set ∙ program_set c.args.filters.now c.args.args.now c.in-Ok.way read.0 read.1
