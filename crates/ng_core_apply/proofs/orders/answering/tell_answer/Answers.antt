use Rattle.std.proofs.Common.{List, Option, ℕ, sym, ap, ◌∙◌, subst}
use Rattle.ng_machine.specs.Change.{Change, change_all}
use Rattle.ng_queue.specs.pending.Holds.{in_world}
use Rattle.ng_core_state.specs.Stands.{Stands}
use Rattle.ng_core_apply.specs.orders.Asked.{told_by}
use Rattle.ng_core_apply.proofs.orders.Told.{no_message, nobody_waits}
use Rattle.ng_core_apply.proofs.orders.answering.tell_answer.Goals as goal

pub returns-in_default : goal.returns-in_default
returns-in_default g c = λ a at stamp S.
    subst (λ (changes : List Change). Stands c.args.state.now (in_world a (change_all at stamp a.world changes))) (sym (ap (λ (t : Option ℕ). told_by t c.args.body) c.in_default.is ∙ nobody_waits c.args.body)) S

pub returns-in_default-body : goal.returns-in_default-body
returns-in_default-body g c = λ a at stamp S.
    subst (λ (changes : List Change). Stands c.args.state.now (in_world a (change_all at stamp a.world changes))) (sym (no_message c.args.tag c.args.body c.in_default-body.not-Msg)) S
