use Rattle.std.proofs.Common.{sym, subst}
use Rattle.ng_machine.specs.declared.item.Item.{Item}
use Rattle.ng_core_apply.specs.orders.Inside.{Became}
use Rattle.ng_core_apply.proofs.orders.Classed.{if_ok}
use Rattle.ng_core_apply.specs.AtHand.{Applies, IsWithin}
use Rattle.ng_core_state.specs.declared.state.State.{State}
use Rattle.ng_core_apply.proofs.AtHands.{inside_of, nothing_out, within_leaves}
use Rattle.ng_core_apply.proofs.NodesStay.{stays_unless_left}
use Rattle.ng_machine.specs.World.{kind_at}
use Rattle.ng_core_apply.proofs.inside.apply_within.Goals as goal

pub apply_inside-requires-clause-leaves : goal.apply_inside-requires-clause-leaves
apply_inside-requires-clause-leaves g c κs within = let W = c.requires.work in within_leaves c.args.state.now c.args.item W.0 W.1.0 W.1.1

pub returns-in-Done-clause-applied : goal.returns-in-Done-clause-applied
returns-in-Done-clause-applied g c = λ a node W.
    let became = subst (Became c.args.state.now c.apply_inside.new.state c.args.item) c.in-Done.is c.in_ok-apply_inside.ensures.became in
    let B = became a node (inside_of c.args.state.now c.args.item a node W) in
    (B.1, nothing_out g.B.Node.state a c.args.item node W.0.at (stays_unless_left (kind_at node) c.args.item.body B.0))

pub returns-in-Left-clause-applied : goal.returns-in-Left-clause-applied
returns-in-Left-clause-applied g c =
    let became = subst (Became c.args.state.now c.apply_inside.new.state c.args.item) c.in-Left.is c.in_ok-apply_inside.ensures.became in
    if_ok c.apply_left.result
    (λ out R a node W. subst (λ (it : Item). Applies g.B.Node.state c.apply_left.new.state it a node out) became.0
    (R a node (subst (λ (s : State g.row.B.Denot). IsWithin s c.in-Left.item a node) (sym became.1) (subst (λ (it : Item). IsWithin c.args.state.now it a node) (sym became.0) W))))
    c.apply_left.ensures.applied
