-- What the arguments name is cleared.
use Rattle.std.proofs.Common.{List, sym, ap, ◌∙◌, ℕ}
use Rattle.ng_machine.specs.kinds.Bpf.{Filter, at_filter, bpf_clear}
use Rattle.ng_machine.specs.Counters.{zeros}
use Rattle.ng_machine.specs.Outcome.{Reply}
use Rattle.ng_filter_types.proofs.bpf.messages.clear_stats.Goals as goal

pub returns-in-Ok-clause-cleared : goal.returns-in-Ok-clause-cleared
returns-in-Ok-clause-cleared c = λ outcome.
    c.clear.ensures.cleared
    ∙ ap (λ (hook : List ℕ). at_filter hook (λ (f : Filter). record f { counters = zeros 6 }) c.args.filters.now) c.hook-hook.ensures
    ∙ sym (ap (λ (r : Reply (List Filter)). r.after) (c.in-Ok.ensures (λ (f : Filter). record { after = bpf_clear c.args.filters.now f; outcome = outcome f })))

pub returns-in-Err-clause-cleared : goal.returns-in-Err-clause-cleared
returns-in-Err-clause-cleared c = λ outcome. sym (ap (λ (r : Reply (List Filter)). r.after) (c.in-Err.ensures (λ (f : Filter). record { after = bpf_clear c.args.filters.now f; outcome = outcome f })))
