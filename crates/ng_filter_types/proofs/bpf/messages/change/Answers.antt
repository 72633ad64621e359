-- The rows of the messages.
use Rattle.std.proofs.Common.{List, ap, ◌∙◌, Some, arith}
use Rattle.ng_machine.specs.kinds.Bpf.{Filter}
use Rattle.ng_machine.specs.Counters.{row_bytes}
use Rattle.ng_machine.specs.Outcome.{Reply, nothing}
use Rattle.ng_filter_types.proofs.bpf.Replies.{both_row, clear_row, others_keep}
use Rattle.ng_filter_types.proofs.bpf.messages.change.Goals as goal

pub returns-in-4-clause-after : goal.returns-in-4-clause-after
returns-in-4-clause-after c =
    c.clear_stats.ensures.cleared (λ (f : Filter). nothing)
    ∙ ap (λ (r : Reply (List Filter)). r.after) (clear_row c.args.filters.now c.args.args.now c.args.number c.in-4.is)

pub returns-in-536870917-clause-after : goal.returns-in-536870917-clause-after
returns-in-536870917-clause-after c =
    c.clear_stats-in-536870917.ensures.cleared (λ (f : Filter). record nothing { answer = Some (row_bytes f.counters) })
    ∙ ap (λ (r : Reply (List Filter)). r.after) (both_row c.args.filters.now c.args.args.now c.args.number c.in-536870917.is)

pub returns-in_default-clause-after : goal.returns-in_default-clause-after
returns-in_default-clause-after c = others_keep c.args.filters.now c.args.args.now c.args.number c.requires (λ e. omega arith) (λ e. omega arith)
