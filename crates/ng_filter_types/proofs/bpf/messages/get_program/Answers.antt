-- The reply to what the arguments name.
use Rattle.std.proofs.Common.{◌≡◌, List, sym, ap, ◌∙◌, ℕ, ◌++◌}
use Rattle.ng_machine.specs.kinds.Bpf.{Filter, way_bytes}
use Rattle.ng_machine.specs.Outcome.{Reply, answers}
use Rattle.ng_filter_types.proofs.bpf.messages.get_program.Goals as goal

pub returns-in_ok-put_program-in-Ok : goal.returns-in_ok-put_program-in-Ok
returns-in_ok-put_program-in-Ok c =
    let bytes : c.put_program.new.out.items ≡ way_bytes c.in-Ok.filter.now.way =
    c.in_ok-put_program-in-Ok.ensures ∙ ap (λ (out : List ℕ). out ++ way_bytes c.in-Ok.filter.now.way) c.new-out.ensures.items in
    c.answers.ensures
    ∙ ap (λ (b : List ℕ). (answers c.args.filters.now b).outcome) bytes
    ∙ sym (ap (λ (r : Reply (List Filter)). r.outcome) (c.in-Ok.ensures (λ (f : Filter). answers c.args.filters.now (way_bytes f.way))))

pub returns-in-Err : goal.returns-in-Err
returns-in-Err c = c.fails.ensures ∙ sym (ap (λ (r : Reply (List Filter)). r.outcome) (c.in-Err.ensures (λ (f : Filter). answers c.args.filters.now (way_bytes f.way))))
