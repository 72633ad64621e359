use Rattle.std.proofs.Common.{◌≡◌, ◌∙◌, ℕ, ◌+◌, ◌^◌, length, sym, ap, subst, arith}
use Rattle.std.specs.declared.option.Option.{Option}
use Rattle.ng_base.specs.declared.ids.NodeId.{NodeId}
use Rattle.ng_machine.specs.declared.outcome.Outcome.{Outcome}
use Rattle.ng_machine.specs.Case.{outcome_of}
use Rattle.ng_machine.specs.Change.{change_all}
use Rattle.ng_machine.specs.Run.{RunState}
use Rattle.ng_machine.specs.World.{NodeRecord, state_of}
use Rattle.ng_queue.specs.pending.Holds.{done_from, in_world}
use Rattle.ng_queue.specs.declared.tally.tally.Tally.{Tally}
use Rattle.ng_queue.specs.tally.Tally.{HasNumbers}
use Rattle.ng_core_state.specs.step.Applied.{IsAtNode}
use Rattle.ng_core_state.specs.Stands.{Stands}
use Rattle.ng_core_state.specs.service.Followers.{follows, one_at, target_by}
use Rattle.ng_core_state.specs.service.Front.{HasFront}
use Rattle.ng_core_state.proofs.service.Fronts.{front_stays}
use Rattle.ng_core_state.specs.service.Leaving.{AllMayLeaveBy, arrival_hook}
use Rattle.ng_core_state.proofs.service.LeavingRoom.{leaving_kept}
use Rattle.ng_core_state.proofs.service.Numbers.{has_numbers}
use Rattle.ng_queue.proofs.tally.NumberLemmas.{fewer_numbers}
use Rattle.ng_core_state.proofs.service.Writings.{own_applied, own_may}
use Rattle.ng_core_state.proofs.service.own.apply_own.Goals as goal
use Rattle.ng_core_state.proofs.service.own.apply_own.Goals.{After-finish}

pub finish-requires-clause-numbers : goal.finish-requires-clause-numbers
finish-requires-clause-numbers g c κs within =
    subst (λ (t : Tally). HasNumbers 1 t) (sym c.make_room.ensures.tally) (fewer_numbers 1 (2 ^ 62) c.args.state.now.pending.tally (omega arith) (has_numbers c.args.state.now c.requires.work.0 c.requires.work.2 c.requires.work.4))

stands_finished : (g : _) (c : After-finish g) (a : RunState) (node : NodeRecord) → Stands c.args.state.now a → IsAtNode a c.args.item node → Stands c.finish.new.state (done_from a c.args.item)
stands_finished g c a node S at = c.finish.ensures.stands a (c.make_room.ensures.stands a S) at.out

pub conclude-requires-clause-standing : goal.conclude-requires-clause-standing
conclude-requires-clause-standing g c κs within =
    let at = (goal.at.conclude-requires-clause-standing g c).After-finish in
    (done_from c.requires.work.0 c.args.item, stands_finished g at c.requires.work.0 c.requires.work.1 c.requires.work.2 c.requires.work.3)

pub conclude-requires-clause-may : goal.conclude-requires-clause-may
conclude-requires-clause-may g c κs within = λ fine.
    let O = c.requires.work.5 in
    let is : c.in-Ok.outcome ≡ outcome_of (state_of c.requires.work.1) c.args.item.body = c.in-Ok.ensures c.requires.work.0 c.requires.work.1 c.requires.work.2 c.requires.work.3 O in
    subst (λ (o : Outcome). AllMayLeaveBy (arrival_hook c.args.item.body) o.leaves) (sym is) (own_may c.args.item c.requires.work.1 O.msg O.body)

pub conclude-requires-clause-leaving : goal.conclude-requires-clause-leaving
conclude-requires-clause-leaving g c κs within =
    leaving_kept c.make_room.new.state c.finish.new.state c.requires.work.0 c.args.item.to (length c.in-Ok.outcome.leaves) (c.make_room.ensures.stands c.requires.work.0 c.requires.work.2) c.requires.work.4
    c.finish.ensures.told c.finish.ensures.ports (let few = c.make_room.ensures.few in omega arith) c.in-Ok-make_room.ensures.told c.in-Ok-make_room.ensures.port

pub conclude-requires-clause-room : goal.conclude-requires-clause-room
conclude-requires-clause-room g c κs within =
    let e = c.finish.ensures.frames in
    front_stays 1 0 c.args.state.now.graph c.finish.new.state.graph c.args.item.to (one_at (target_by c.args.item.to c.args.item.body c.in-Ok.outcome.learn c.in-Ok.outcome.answer)) c.in-Ok.outcome.sends
    c.make_room.new.state.pending c.finish.new.state.pending (c.finish.ensures.graph ∙ c.make_room.ensures.graph) c.finish.ensures.spares c.finish.ensures.lists (omega arith)
    (subst (λ (o : Option NodeId). HasFront 1 c.args.state.now.graph c.args.item.to (one_at o) c.in-Ok.outcome.sends c.make_room.new.state.pending) c.target.ensures c.in-Ok-make_room.ensures.room)

pub conclude-requires-clause-numbers : goal.conclude-requires-clause-numbers
conclude-requires-clause-numbers g c κs within =
    let few = c.make_room.ensures.few in
    let k : ℕ = length c.in-Ok.outcome.leaves + (length c.in-Ok.outcome.sends + 2) in
    c.finish.ensures.numbers k (subst (λ (t : Tally). HasNumbers (k + 1) t) (sym c.make_room.ensures.tally)
    (fewer_numbers (k + 1) (2 ^ 62) c.args.state.now.pending.tally (omega arith) (has_numbers c.args.state.now c.requires.work.0 c.requires.work.2 c.requires.work.4)))

pub returns-clause-applied : goal.returns-clause-applied
returns-clause-applied g c = λ a node S at L O.
    let after = (goal.at.returns-clause-applied g c).After-finish in
    let is : c.in-Ok.outcome ≡ outcome_of (state_of node) c.args.item.body = c.in-Ok.ensures a node S at O in
    subst (λ (b : RunState). Stands c.conclude.new.state b)
    (ap (λ (o : Outcome). in_world (done_from a c.args.item) (change_all c.args.item.to c.args.item.stamp (done_from a c.args.item).world (follows c.args.item o))) is
    ∙ sym (own_applied a c.args.item node O.msg at O.body O.own O.reads))
    (c.conclude.ensures (done_from a c.args.item) (stands_finished g after a node S at))
