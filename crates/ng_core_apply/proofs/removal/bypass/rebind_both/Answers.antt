use Rattle.std.proofs.Common.{◌≡◌, ◌∙◌, ℕ, ◌+◌, sym, ap, subst, arith}
use Rattle.ng_base.specs.declared.ids.LinkId.{LinkId}
use Rattle.ng_machine.specs.declared.body.Body.TheVariants.{Rebind}
use Rattle.ng_machine.specs.Change.{Accepts, change}
use Rattle.ng_machine.specs.World.{link_id}
use Rattle.ng_queue.specs.declared.pending.pending.Pending.{Pending}
use Rattle.ng_queue.specs.pending.Holds.{in_world}
use Rattle.ng_queue.specs.tally.Tally.{HasNumbers}
use Rattle.ng_core_state.specs.Stands.{Stands}
use Rattle.ng_core_state.specs.step.Changed.{with_link}
use Rattle.ng_core_apply.proofs.removal.bypass.rebind_both.Goals as goal

pub rebind-requires-2-clause-standing : goal.rebind-requires-2-clause-standing
rebind-requires-2-clause-standing g c κs within =
    let W = c.requires.standing in (_, c.rebind.ensures.stands (in_world W.0 (with_link W.0.world)) (c.fresh_link-link.ensures.stands W.0 W.1))

pub rebind-requires-2-clause-numbers : goal.rebind-requires-2-clause-numbers
rebind-requires-2-clause-numbers g c κs within = c.rebind.ensures.numbers 1 (subst (λ (p : Pending). HasNumbers 2 p.tally) (sym c.fresh_link-link.ensures.pending) c.requires.numbers)

pub returns-clause-stands : goal.returns-clause-stands
returns-clause-stands g c = λ a S.
    let first = c.args.first.now in
    let second = c.args.second.now in
    let item = c.args.item.now in
    subst (λ (link : LinkId). Stands c.rebind-2.new.state (in_world a (change item.to item.stamp (change item.to item.stamp (with_link a.world)
    (Accepts first.peer.node (Rebind first.peer.hook first.link link second.peer.node second.peer.hook) item.tag))
    (Accepts second.peer.node (Rebind second.peer.hook second.link link first.peer.node first.peer.hook) item.tag))))
    (c.fresh_link-link.ensures.link ∙ ap link_id S.graph.next_link)
    (c.rebind-2.ensures.stands _ (c.rebind.ensures.stands (in_world a (with_link a.world)) (c.fresh_link-link.ensures.stands a S)))

pub returns-clause-numbers : goal.returns-clause-numbers
returns-clause-numbers g c = λ k H. c.rebind-2.ensures.numbers k (c.rebind.ensures.numbers (k + 1)
    (subst (λ (p : Pending). HasNumbers (k + 1 + 1) p.tally) (sym c.fresh_link-link.ensures.pending) (subst (λ (n : ℕ). HasNumbers n c.args.state.now.pending.tally) (let e : k + 2 ≡ k + 1 + 1 = omega arith in e) H)))
