use Rattle.std.proofs.Common.{[], Option, refl, ap}
use Rattle.ng_machine.specs.declared.body.Body.TheVariants.{Join2, Join3, Undo, Rebind, Learn}
use Rattle.ng_machine.specs.declared.hook.Hook.{Hook}
use Rattle.ng_machine.specs.Connect.{hook_refusal, join, rebind, settle, undo}
use Rattle.ng_machine.specs.Effect.{learn}
use Rattle.ng_machine.specs.World.{kind_at, linked_hook}
use Rattle.ng_core_apply.specs.orders.Inside.{is_left}
use Rattle.ng_core_apply.proofs.orders.InsideSteps.{inside_gone, inside_home, inside_learn, inside_step}
use Rattle.ng_core_apply.proofs.orders.inside.apply_link.Goals as goal

pub apply_join-requires-clause-home : goal.apply_join-requires-clause-home
apply_join-requires-clause-home g c κs within =
    let W = c.requires.work in inside_home c.args.state.now c.args.item W.0 W.1.0 (Join2 c.in-Join2.hook c.in-Join2.link c.in-Join2.peer c.in-Join2.peer_hook) W.1.1 c.in-Join2.is (λ kind. refl) c.requires.leaves

pub apply_settle-requires-clause-home : goal.apply_settle-requires-clause-home
apply_settle-requires-clause-home g c κs within =
    let W = c.requires.work in inside_home c.args.state.now c.args.item W.0 W.1.0 (Join3 c.in-Join3.hook c.in-Join3.link) W.1.1 c.in-Join3.is (λ kind. refl) c.requires.leaves

pub apply_undo-requires-clause-home : goal.apply_undo-requires-clause-home
apply_undo-requires-clause-home g c κs within =
    let W = c.requires.work in inside_home c.args.state.now c.args.item W.0 W.1.0 (Undo c.in-Undo.hook c.in-Undo.link c.in-Undo.errno) W.1.1 c.in-Undo.is (λ kind. refl) c.requires.leaves

pub apply_rebind-requires-clause-home : goal.apply_rebind-requires-clause-home
apply_rebind-requires-clause-home g c κs within =
    let W = c.requires.work in inside_home c.args.state.now c.args.item W.0 W.1.0 (Rebind c.in-Rebind.hook c.in-Rebind.old c.in-Rebind.new c.in-Rebind.peer c.in-Rebind.peer_hook) W.1.1 c.in-Rebind.is (λ kind. refl) c.requires.leaves

pub returns-in_ok-apply_join-in-Join2-clause-became : goal.returns-in_ok-apply_join-in-Join2-clause-became
returns-in_ok-apply_join-in-Join2-clause-became g c = λ a node I.
    (ap (is_left (kind_at node)) c.in-Join2.is, c.in_ok-apply_join-in-Join2.ensures.applied a node (inside_step c.args.state.now c.args.item a node (Join2 c.in-Join2.hook c.in-Join2.link c.in-Join2.peer c.in-Join2.peer_hook) (join c.args.item node (hook_refusal node c.in-Join2.hook) c.in-Join2.hook c.in-Join2.link c.in-Join2.peer c.in-Join2.peer_hook) I c.in-Join2.is refl refl))

pub returns-in-Join3-clause-became : goal.returns-in-Join3-clause-became
returns-in-Join3-clause-became g c = λ a node I.
    (ap (is_left (kind_at node)) c.in-Join3.is, c.apply_settle.ensures a node (inside_step c.args.state.now c.args.item a node (Join3 c.in-Join3.hook c.in-Join3.link) (settle node (linked_hook node c.in-Join3.hook c.in-Join3.link)) I c.in-Join3.is refl refl))

pub returns-in_ok-apply_undo-in-Undo-clause-became : goal.returns-in_ok-apply_undo-in-Undo-clause-became
returns-in_ok-apply_undo-in-Undo-clause-became g c = λ a node I.
    (ap (is_left (kind_at node)) c.in-Undo.is, c.in_ok-apply_undo-in-Undo.ensures.applied a node (inside_step c.args.state.now c.args.item a node (Undo c.in-Undo.hook c.in-Undo.link c.in-Undo.errno) (undo c.args.item node (linked_hook node c.in-Undo.hook c.in-Undo.link) c.in-Undo.errno) I c.in-Undo.is refl refl))

pub returns-in-Rebind-clause-became : goal.returns-in-Rebind-clause-became
returns-in-Rebind-clause-became g c = λ a node I.
    (ap (is_left (kind_at node)) c.in-Rebind.is, c.apply_rebind.ensures a node (inside_step c.args.state.now c.args.item a node (Rebind c.in-Rebind.hook c.in-Rebind.old c.in-Rebind.new c.in-Rebind.peer c.in-Rebind.peer_hook) (rebind node (linked_hook node c.in-Rebind.hook c.in-Rebind.old) c.in-Rebind.new c.in-Rebind.peer c.in-Rebind.peer_hook) I c.in-Rebind.is refl refl))

pub returns-in-Frame-clause-became : goal.returns-in-Frame-clause-became
returns-in-Frame-clause-became g c = λ a node I. (
  ap (is_left (kind_at node)) c.in-Frame.is,
  c.apply_gone.ensures a node (record { stands = I.stands; at = I.at; low = I.low; gone = inside_gone c.args.state.now c.args.item a node c.in-Frame.door c.in-Frame.link c.in-Frame.packet I c.in-Frame.is }),
)

pub returns-in-Learn-clause-became : goal.returns-in-Learn-clause-became
returns-in-Learn-clause-became g c = λ a node I.
    let none = inside_learn c.args.state.now c.args.item a node c.in-Learn.hook c.in-Learn.link c.in-Learn.addr I c.in-Learn.is in (
      ap (is_left (kind_at node)) c.in-Learn.is,
      c.apply_nothing.ensures a node (inside_step c.args.state.now c.args.item a node (Learn c.in-Learn.hook c.in-Learn.link c.in-Learn.addr) [] I c.in-Learn.is refl (ap (λ (o : Option Hook). learn node o (Learn c.in-Learn.hook c.in-Learn.link c.in-Learn.addr)) none)),
    )

pub returns-in-Leave-clause-became : goal.returns-in-Leave-clause-became
returns-in-Leave-clause-became g c = (refl, refl, λ a node I. ap (is_left (kind_at node)) c.in-Leave.is)

pub returns-in-Tick-clause-became : goal.returns-in-Tick-clause-became
returns-in-Tick-clause-became g c = (refl, refl, λ a node I. ap (is_left (kind_at node)) c.in-Tick.is)
