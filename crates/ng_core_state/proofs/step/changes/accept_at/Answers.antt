use Rattle.std.proofs.Common.{◌∙◌, sym, subst, refl}
use Rattle.ng_machine.specs.World.{World}
use Rattle.ng_queue.specs.pending.Holds.{in_world}
use Rattle.ng_core_state.specs.Stands.{Stands}
use Rattle.ng_core_state.proofs.SentItems.{kind_node, stands_accepted}
use Rattle.ng_core_state.proofs.step.MadeChanges.{accepts_there}
use Rattle.ng_core_state.proofs.step.changes.accept_at.Goals as goal

pub returns-in-Some-clause-stands : goal.returns-in-Some-clause-stands
returns-in-Some-clause-stands g c = λ a at S.
    let k = kind_node c.args.state.now.graph.nodes a.world.nodes c.args.to c.in-Some.kind S.graph.nodes (sym c.kind.ensures ∙ c.in-Some.is) in
    subst (λ (w : World). Stands (record c.args.state.now { pending = c.accept.new.self }) (in_world a w)) (accepts_there a.world c.args.to k.node c.in-Some.kind c.args.body c.args.tag c.args.stamp at k.is k.kind_is)
    (stands_accepted c.args.state.now (record c.args.state.now { pending = c.accept.new.self }) a k.node c.args.to c.in-Some.kind c.args.body c.args.tag c.args.stamp S k.is k.kind_is (c.accept.ensures.holds a S.items) refl c.accept.ensures.lists refl refl)
