use Rattle.std.proofs.Common.{◌≡◌, ◌∙◌, ℕ, List, length, sym, ap, subst, rules}
use Rattle.ng_machine.specs.declared.body.Exit.{Exit}
use Rattle.ng_machine.specs.Change.{change_all}
use Rattle.ng_machine.specs.Effect.{exits}
use Rattle.ng_queue.specs.pending.Holds.{in_world}
use Rattle.ng_core_state.specs.Stands.{Stands}
use Rattle.ng_core_state.specs.service.Leaving.{arrival_hook, name_or_empty}
use Rattle.ng_core_state.proofs.service.Sending.{none_left}
use Rattle.ng_core_state.proofs.service.leaving.leave_any.Goals as goal

pub returns-then-is_empty-clause-stands : goal.returns-then-is_empty-clause-stands
returns-then-is_empty-clause-stands g c = λ a S.
    let empty : length c.as_slice.result.now ≡ 0 = search rules in
    let none = none_left c.args.leaves.now (ap (λ (l : List (Exit × List ℕ)). length l) (sym c.as_slice.ensures) ∙ empty) in
    subst (λ (l : List (Exit × List ℕ)). Stands c.args.state.now (in_world a (change_all c.args.item.now.to c.args.item.now.stamp a.world (exits (name_or_empty (arrival_hook c.args.item.now.body)) l)))) (sym none) S
