-- The rows of the messages.
use Rattle.std.proofs.Common.{◌≡◌, List, ap, ◌∙◌, IfOk, subst}
use Rattle.ng_machine.specs.kinds.Bpf.{Filter, bpf_clear}
use Rattle.ng_machine.specs.Outcome.{Reply}
use Rattle.ng_filter_types.proofs.bpf.Replies.{both_row, clear_row, stats_row}
use Rattle.ng_filter_types.proofs.bpf.messages.reply.Goals as goal

pub returns-in-536870915 : goal.returns-in-536870915
returns-in-536870915 c =
    subst (λ (r : Reply (List Filter)). IfOk c.get_stats.result (λ outcome. outcome ≡ r.outcome))
    (stats_row c.args.filters.now c.args.args.now c.args.number c.in-536870915.is) (c.get_stats.ensures (λ (f : Filter). c.args.filters.now))

pub returns-in-4 : goal.returns-in-4
returns-in-4 c =
    c.allow_clear.ensures (λ (f : Filter). bpf_clear c.args.filters.now f)
    ∙ ap (λ (r : Reply (List Filter)). r.outcome) (clear_row c.args.filters.now c.args.args.now c.args.number c.in-4.is)

pub returns-in-536870917 : goal.returns-in-536870917
returns-in-536870917 c =
    subst (λ (r : Reply (List Filter)). IfOk c.get_stats-in-536870917.result (λ outcome. outcome ≡ r.outcome))
    (both_row c.args.filters.now c.args.args.now c.args.number c.in-536870917.is) (c.get_stats-in-536870917.ensures (λ (f : Filter). bpf_clear c.args.filters.now f))
