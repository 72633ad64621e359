-- The reply to what the arguments name.
use Rattle.std.proofs.Common.{List, sym, ap, ◌∙◌}
use Rattle.ng_machine.specs.kinds.Bpf.{Filter}
use Rattle.ng_machine.specs.Outcome.{Reply, sets}
use Rattle.ng_filter_types.proofs.bpf.messages.allow_clear.Goals as goal

pub returns-in-Ok : goal.returns-in-Ok
returns-in-Ok c = λ after. c.nothing.ensures ∙ sym (ap (λ (r : Reply (List Filter)). r.outcome) (c.in-Ok.ensures (λ (f : Filter). sets (after f))))

pub returns-in-Err : goal.returns-in-Err
returns-in-Err c = λ after. c.fails.ensures ∙ sym (ap (λ (r : Reply (List Filter)). r.outcome) (c.in-Err.ensures (λ (f : Filter). sets (after f))))
