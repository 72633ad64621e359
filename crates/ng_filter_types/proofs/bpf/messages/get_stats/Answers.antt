-- The reply to what the arguments name.
use Rattle.std.proofs.Common.{◌≡◌, List, sym, ap, ◌∙◌, ℕ, ◌++◌}
use Rattle.ng_machine.specs.kinds.Bpf.{Filter}
use Rattle.ng_machine.specs.Counters.{row_bytes}
use Rattle.ng_machine.specs.Outcome.{Reply, answers}
use Rattle.ng_filter_types.proofs.bpf.messages.get_stats.Goals as goal

pub returns-in_ok-put_counters-in-Ok : goal.returns-in_ok-put_counters-in-Ok
returns-in_ok-put_counters-in-Ok c = λ after.
    let bytes : c.put_counters.new.out.items ≡ row_bytes c.in-Ok.filter.now.counters =
    c.in_ok-put_counters-in-Ok.ensures ∙ ap (λ (out : List ℕ). out ++ row_bytes c.in-Ok.filter.now.counters) c.new-out.ensures.items in
    c.answers.ensures
    ∙ ap (λ (b : List ℕ). (answers c.args.filters.now b).outcome) bytes
    ∙ sym (ap (λ (r : Reply (List Filter)). r.outcome) (c.in-Ok.ensures (λ (f : Filter). answers (after f) (row_bytes f.counters))))

pub returns-in-Err : goal.returns-in-Err
returns-in-Err c = λ after. c.fails.ensures ∙ sym (ap (λ (r : Reply (List Filter)). r.outcome) (c.in-Err.ensures (λ (f : Filter). answers (after f) (row_bytes f.counters))))
