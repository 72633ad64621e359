use Rattle.std.proofs.Common.{◌∙◌, ℕ, List, refl, sym, ap, subst}
use Rattle.std.specs.declared.option.Option.{Option}
use Rattle.ng_machine.specs.declared.told.Told.TheVariants.{Refused}
use Rattle.ng_machine.specs.Change.{change_all, tell}
use Rattle.ng_machine.specs.Retire.{refuse}
use Rattle.ng_machine.specs.World.{World}
use Rattle.ng_queue.specs.pending.Holds.{in_world}
use Rattle.ng_core_state.specs.Stands.{Stands}
use Rattle.ng_core_state.proofs.ToldEntries.{stands_told}
use Rattle.ng_core_apply.proofs.removal.drops.tell_refusal.Goals as goal

pub returns-in-Some-clause-stands : goal.returns-in-Some-clause-stands
returns-in-Some-clause-stands g c = λ a at stamp S.
    subst (λ (w : World). Stands (record c.args.state.now { told = c.push_reserved.new.self }) (in_world a w))
    (ap (λ (why : List ℕ). tell a.world (Refused c.in-Some.command c.args.errno why)) c.new.ensures.items
    ∙ ap (λ (tag : Option ℕ). change_all at stamp a.world (refuse tag c.args.errno)) (sym c.in-Some.is))
    (stands_told c.args.state.now (record c.args.state.now { told = c.push_reserved.new.self }) a a.world _ S S.items refl refl c.push_reserved.ensures.items refl
    (record { nodes = refl; stock = refl; next_link = refl; told = refl; ports = refl }) refl)
