use Rattle.std.proofs.Common.{◌∙◌, ◌+◌, ◌^◌, length, sym, subst, arith}
use Rattle.std.specs.declared.option.Option.{Option}
use Rattle.ng_base.specs.declared.ids.NodeId.{NodeId}
use Rattle.ng_queue.specs.declared.tally.tally.Tally.{Tally}
use Rattle.ng_queue.specs.tally.Tally.{HasNumbers}
use Rattle.ng_core_state.specs.service.Followers.{one_at, target_by}
use Rattle.ng_core_state.specs.service.Front.{HasFront}
use Rattle.ng_core_state.proofs.service.Fronts.{front_stays}
use Rattle.ng_core_state.proofs.service.LeavingRoom.{leaving_kept}
use Rattle.ng_core_state.proofs.service.Numbers.{has_numbers}
use Rattle.ng_queue.proofs.tally.NumberLemmas.{fewer_numbers}
use Rattle.ng_core_state.proofs.service.reading.apply_read_item.Goals as goal

pub finish-requires-clause-numbers : goal.finish-requires-clause-numbers
finish-requires-clause-numbers g c κs within =
    subst (λ (t : Tally). HasNumbers 1 t) (sym c.make_room.ensures.tally) (fewer_numbers 1 (2 ^ 62) c.args.state.now.pending.tally (omega arith) (has_numbers c.args.state.now c.requires.work.0 c.requires.work.2 c.requires.work.4))

pub bring_about-requires-clause-work : goal.bring_about-requires-clause-work
bring_about-requires-clause-work g c κs within =
    let a = c.requires.work.0 in
    (a, c.requires.work.1, c.finish.ensures.stands a (c.make_room.ensures.stands a c.requires.work.2) c.requires.work.3.out, c.requires.work.3, c.requires.work.5)

pub bring_about-requires-clause-leaving : goal.bring_about-requires-clause-leaving
bring_about-requires-clause-leaving g c κs within =
    leaving_kept c.make_room.new.state c.finish.new.state c.requires.work.0 c.args.item.now.to (length c.args.outcome.leaves) (c.make_room.ensures.stands c.requires.work.0 c.requires.work.2) c.requires.work.4 c.finish.ensures.told c.finish.ensures.ports
    (let few = c.make_room.ensures.few in omega arith) c.in-Ok.ensures.told c.in-Ok.ensures.port

pub bring_about-requires-clause-room : goal.bring_about-requires-clause-room
bring_about-requires-clause-room g c κs within =
    let e = c.finish.ensures.frames in
    front_stays 1 0 c.args.state.now.graph c.finish.new.state.graph c.args.item.now.to (one_at (target_by c.args.item.now.to c.args.item.now.body c.args.outcome.learn c.args.outcome.answer)) c.args.outcome.sends
    c.make_room.new.state.pending c.finish.new.state.pending (c.finish.ensures.graph ∙ c.make_room.ensures.graph) c.finish.ensures.spares c.finish.ensures.lists (omega arith)
    (subst (λ (o : Option NodeId). HasFront 1 c.args.state.now.graph c.args.item.now.to (one_at o) c.args.outcome.sends c.make_room.new.state.pending) c.target.ensures c.in-Ok.ensures.room)

pub bring_about-requires-clause-numbers : goal.bring_about-requires-clause-numbers
bring_about-requires-clause-numbers g c κs within =
    let few = c.make_room.ensures.few in
    c.finish.ensures.numbers (length c.args.outcome.leaves + (length c.args.outcome.sends + 2))
    (subst (λ (t : Tally). HasNumbers (length c.args.outcome.leaves + (length c.args.outcome.sends + 2) + 1) t) (sym c.make_room.ensures.tally)
    (fewer_numbers (length c.args.outcome.leaves + (length c.args.outcome.sends + 2) + 1) (2 ^ 62) c.args.state.now.pending.tally (omega arith) (has_numbers c.args.state.now c.requires.work.0 c.requires.work.2 c.requires.work.4)))

pub returns-clause-applied : goal.returns-clause-applied
returns-clause-applied g c = λ a node S at L R. c.bring_about.ensures a node (c.finish.ensures.stands a (c.make_room.ensures.stands a S) at.out) at R
