use Rattle.std.proofs.Common.{◌∙◌, Ok, sym, ap}
use Rattle.std.proofs.lemmas.Bool.{eq-eqb, ne_eqb}
use Rattle.ng_message.specs.Numbers.{generic_cookie}
use Rattle.ng_machine.specs.Run.{RunState}
use Rattle.ng_machine.specs.World.{NodeRecord}
use Rattle.ng_core_apply.specs.orders.Inside.{removes_as_read}
use Rattle.ng_core_apply.proofs.orders.Classed.{if_ok}
use Rattle.ng_core_apply.specs.removal.Removals.{IsAlone}
use Rattle.ng_core_apply.specs.orders.Classes.{obeys}
use Rattle.ng_core_state.specs.step.Steps.{IsStep}
use Rattle.ng_core_apply.specs.AtHand.{IsWithin, going_order}
use Rattle.ng_core_apply.proofs.AtHands.{is_order, is_own, nothing_out, order_removes, own_at, own_stays, removal_step, within_home}
use Rattle.ng_core_apply.proofs.removing.apply_message.Goals as goal
use Rattle.ng_core_apply.proofs.removing.apply_message.Goals.{After-removed_hook-hook}

-- the order that was read is the one that is carried out
step : (g : _) (c : After-removed_hook-hook g) (a : RunState) (node : NodeRecord) → IsWithin c.args.state.now c.args.item a node
    → IsStep c.args.state.now c.args.item a node (obeys c.args.item c.in-Msg.msg.from c.in-Msg.msg.header (Ok (going_order c.removed_hook-hook.result)) a node) × IsAlone a c.args.item
step g c a node W =
    let left = c.requires.left a node W in
    let class = is_order node c.args.item c.in-Msg.msg c.in-Msg.is left (eq-eqb c.in-Msg.msg.header.typecookie generic_cookie c.if-msg-eq-GENERIC_COOKIE.true) in
    let read = c.read_order.ensures.order in
    let removes = ap removes_as_read read ∙ order_removes node c.args.item c.in-Msg.msg c.in-Msg.is left class in
    removal_step c.args.state.now c.args.item a node c.in-Msg.msg (Ok (going_order c.removed_hook-hook.result)) W c.in-Msg.is left class (sym read ∙ c.removed_hook-hook.ensures removes)

pub apply_removal-requires-clause-work : goal.apply_removal-requires-clause-work
apply_removal-requires-clause-work g c κs within =
    let W = c.requires.work in let S = step g (goal.at.apply_removal-requires-clause-work g c).After-removed_hook-hook W.0 W.1.0 W.1.1 in (W.0, (W.1.0, S.0, S.1))

pub apply_removal-requires-clause-home : goal.apply_removal-requires-clause-home
apply_removal-requires-clause-home g c κs within = let W = c.requires.work in within_home c.args.state.now c.args.item W.0 W.1.0 W.1.1

pub returns-then-msg-eq-GENERIC_COOKIE-clause-applied : goal.returns-then-msg-eq-GENERIC_COOKIE-clause-applied
returns-then-msg-eq-GENERIC_COOKIE-clause-applied g c =
    let early = (goal.at.returns-then-msg-eq-GENERIC_COOKIE-clause-applied g c).After-removed_hook-hook in
    if_ok c.apply_removal.result (λ out R a node W. let S = step g early a node W in R a node S.0 S.1) c.apply_removal.ensures.applied

pub apply_own-requires-clause-work : goal.apply_own-requires-clause-work
apply_own-requires-clause-work g c κs within =
    let W = c.requires.work in
    let class = is_own W.1.0 c.args.item c.in-Msg.msg c.in-Msg.is (c.requires.left W.0 W.1.0 W.1.1) (ne_eqb c.in-Msg.msg.header.typecookie generic_cookie c.if-msg-eq-GENERIC_COOKIE.false) in
    (W.0, W.1.0, W.1.1.0.stands, W.1.1.0.at, W.1.1.0.low, own_at c.args.state.now c.args.item W.0 W.1.0 c.in-Msg.msg W.1.1 c.in-Msg.is class)

pub apply_own-requires-clause-home : goal.apply_own-requires-clause-home
apply_own-requires-clause-home g c κs within = let W = c.requires.work in within_home c.args.state.now c.args.item W.0 W.1.0 W.1.1

pub returns-clause-applied : goal.returns-clause-applied
returns-clause-applied g c = λ a node W.
    let class = is_own node c.args.item c.in-Msg.msg c.in-Msg.is (c.requires.left a node W) (ne_eqb c.in-Msg.msg.header.typecookie generic_cookie c.if-msg-eq-GENERIC_COOKIE.false) in (
      c.in_ok-apply_own.ensures.applied a node W.0.stands W.0.at W.0.low (own_at c.args.state.now c.args.item a node c.in-Msg.msg W c.in-Msg.is class),
      nothing_out g.B.Node.state a c.args.item node W.0.at (own_stays c.args.item node c.in-Msg.msg c.in-Msg.is class),
    )
