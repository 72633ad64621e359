use Rattle.std.proofs.Common.{◌≡◌, ◌∙◌, inr, ◌+◌, ◌^◌, List, length, set, sym, ap, subst, arith, refl}
use Rattle.std.specs.declared.option.Option.{Option}
use Rattle.std.specs.declared.option.Option.TheVariants.{Some}
use Rattle.ng_base.specs.declared.ids.NodeId.{NodeId}
use Rattle.ng_machine.specs.declared.item.Item.{Item}
use Rattle.ng_machine.specs.Run.{RunState}
use Rattle.ng_machine.specs.State.{KindState}
use Rattle.ng_machine.specs.World.{NodeRecord, node_in}
use Rattle.ng_queue.specs.declared.pending.pending.Pending.{Pending}
use Rattle.ng_queue.specs.pending.Holds.{done_from, in_world}
use Rattle.ng_core_state.specs.step.Applied.{IsAtNode}
use Rattle.ng_queue.specs.declared.tally.tally.Tally.{Tally}
use Rattle.ng_queue.specs.tally.Tally.{HasNumbers}
use Rattle.ng_topology.specs.Topology.{FitsNode, Topology, change_node, is_home, with_kept}
use Rattle.ng_core_state.specs.Room.{wants}
use Rattle.ng_core_state.specs.Stands.{Stands}
use Rattle.ng_core_state.specs.service.Followers.{one_at, target_by}
use Rattle.ng_core_state.specs.service.Front.{HasFront, goers}
use Rattle.ng_core_state.proofs.service.Fronts.{front_moved, goers_changed}
use Rattle.ng_core_state.proofs.service.LeavingRoom.{leaving_kept}
use Rattle.ng_core_state.proofs.service.NodesChanged.{home_given, wants_changed}
use Rattle.ng_core_state.proofs.service.Numbers.{has_numbers}
use Rattle.ng_queue.proofs.tally.NumberLemmas.{fewer_numbers}
use Rattle.ng_core_state.proofs.service.Writings.{written_applied, written_fits, written_may}
use Rattle.ng_core_state.proofs.service.writing.apply_write_item.Goals as goal
use Rattle.ng_core_state.proofs.service.writing.apply_write_item.Goals.{After-finish}

pub bring_home-requires-clause-fits : goal.bring_home-requires-clause-fits
bring_home-requires-clause-fits g c κs within = λ node here.
    let found : node_in c.args.state.now.graph.nodes c.args.item.now.to ≡ Some c.requires.work.1 =
    ap (λ (l : List (Option NodeRecord)). node_in l c.args.item.now.to) c.requires.work.2.graph.nodes ∙ c.requires.work.3.here in
    let both : Some c.requires.work.1 ≡ Some node = sym found ∙ sym (ap (λ (t : Topology). node_in t.nodes c.args.item.now.to) c.make_room.ensures.graph) ∙ here in
    let same : c.requires.work.1 ≡ node = cc in
    subst (λ (r : NodeRecord). FitsNode r (g.B.Node.state c.args.node)) same (written_fits c.args.item.now c.requires.work.1 (g.B.Node.state c.args.node) c.args.outcome c.requires.work.5)

pub finish-requires-clause-leaves : goal.finish-requires-clause-leaves
finish-requires-clause-leaves g c κs within =
    inr (ap (λ (t : Topology). is_home t c.args.item.now.to) c.bring_home.ensures.graph
    ∙ home_given c.make_room.new.state c.requires.work.0 c.args.item.now.to c.requires.work.1 (g.B.Node.state c.args.node) (c.make_room.ensures.stands c.requires.work.0 c.requires.work.2) c.requires.work.3.here)

pub finish-requires-clause-numbers : goal.finish-requires-clause-numbers
finish-requires-clause-numbers g c κs within =
    subst (λ (p : Pending). HasNumbers 1 p.tally) (sym c.bring_home.ensures.pending) (subst (λ (t : Tally). HasNumbers 1 t) (sym c.make_room.ensures.tally)
    (fewer_numbers 1 (2 ^ 62) c.args.state.now.pending.tally (omega arith) (has_numbers c.args.state.now c.requires.work.0 c.requires.work.2 c.requires.work.4)))

-- the run after the box came home
abbrev home_run : RunState → Item → NodeRecord → KindState → RunState
home_run a item was kept = in_world a (record a.world { nodes = set a.world.nodes item.to.0 (Some (with_kept kept was)) })

pub finish-requires-clause-out : goal.finish-requires-clause-out
finish-requires-clause-out g c κs within = (
  home_run c.requires.work.0 c.args.item.now c.requires.work.1 (g.B.Node.state c.args.node).kept,
  c.bring_home.ensures.stands c.requires.work.0 c.requires.work.1 (c.make_room.ensures.stands c.requires.work.0 c.requires.work.2) c.requires.work.3.here,
  c.requires.work.3.out,
)

stands_finished : (g : _) (c : After-finish g) (a : RunState) (was : NodeRecord) → Stands c.args.state.now a → IsAtNode a c.args.item.now was → Stands c.finish.new.state (done_from (home_run a c.args.item.now was (g.B.Node.state c.args.node).kept) c.args.item.now)
stands_finished g c a was S at =
    c.finish.ensures.stands (home_run a c.args.item.now was (g.B.Node.state c.args.node).kept) (c.bring_home.ensures.stands a was (c.make_room.ensures.stands a S) at.here) at.out

pub conclude-requires-clause-standing : goal.conclude-requires-clause-standing
conclude-requires-clause-standing g c κs within =
    let at = (goal.at.conclude-requires-clause-standing g c).After-finish in
    (done_from (home_run c.requires.work.0 c.args.item.now c.requires.work.1 (g.B.Node.state c.args.node).kept) c.args.item.now, stands_finished g at c.requires.work.0 c.requires.work.1 c.requires.work.2 c.requires.work.3)

pub conclude-requires-clause-may : goal.conclude-requires-clause-may
conclude-requires-clause-may g c κs within = λ fine. written_may c.args.item.now c.requires.work.1 (g.B.Node.state c.args.node) c.args.outcome c.requires.work.5

pub conclude-requires-clause-leaving : goal.conclude-requires-clause-leaving
conclude-requires-clause-leaving g c κs within =
    leaving_kept c.make_room.new.state c.finish.new.state c.requires.work.0 c.args.item.now.to (length c.args.outcome.leaves) (c.make_room.ensures.stands c.requires.work.0 c.requires.work.2) c.requires.work.4
    (c.finish.ensures.told ∙ c.bring_home.ensures.told) (c.finish.ensures.ports ∙ c.bring_home.ensures.ports)
    (let few = c.make_room.ensures.few in omega arith) c.in-Ok.ensures.told c.in-Ok.ensures.port

pub conclude-requires-clause-room : goal.conclude-requires-clause-room
conclude-requires-clause-room g c κs within =
    let f = λ (node : NodeRecord). with_kept (g.B.Node.state c.args.node).kept node in
    let home = c.finish.ensures.graph ∙ c.bring_home.ensures.graph in
    let same = ap (λ (p : Pending). p.tally.frames) c.bring_home.ensures.pending in
    let e = c.finish.ensures.frames in
    front_moved 1 0 c.args.state.now.graph c.finish.new.state.graph c.args.item.now.to (one_at (target_by c.args.item.now.to c.args.item.now.body c.args.outcome.learn c.args.outcome.answer)) c.args.outcome.sends
    c.make_room.new.state.pending c.finish.new.state.pending
    (λ front n. ap (λ (t : Topology). wants (node_in t.nodes c.args.item.now.to) front n) home ∙ ap (λ (t : Topology). wants (node_in (change_node t c.args.item.now.to f).nodes c.args.item.now.to) front n) c.make_room.ensures.graph
    ∙ wants_changed c.args.state.now.graph.nodes c.args.item.now.to f front n (λ r. refl))
    (λ front. ap (λ (t : Topology). goers t.nodes c.args.item.now.to front) home ∙ ap (λ (t : Topology). goers (change_node t c.args.item.now.to f).nodes c.args.item.now.to front) c.make_room.ensures.graph
    ∙ goers_changed c.args.state.now.graph.nodes c.args.item.now.to f front (λ r. refl))
    (c.finish.ensures.spares ∙ ap (λ (p : Pending). p.queues.spares) c.bring_home.ensures.pending) (c.finish.ensures.lists ∙ ap (λ (p : Pending). length p.queues.lists) c.bring_home.ensures.pending) (omega arith)
    (subst (λ (o : Option NodeId). HasFront 1 c.args.state.now.graph c.args.item.now.to (one_at o) c.args.outcome.sends c.make_room.new.state.pending) c.target.ensures c.in-Ok.ensures.room)

pub conclude-requires-clause-numbers : goal.conclude-requires-clause-numbers
conclude-requires-clause-numbers g c κs within =
    let few = c.make_room.ensures.few in
    c.finish.ensures.numbers (length c.args.outcome.leaves + (length c.args.outcome.sends + 2))
    (subst (λ (p : Pending). HasNumbers (length c.args.outcome.leaves + (length c.args.outcome.sends + 2) + 1) p.tally) (sym c.bring_home.ensures.pending)
    (subst (λ (t : Tally). HasNumbers (length c.args.outcome.leaves + (length c.args.outcome.sends + 2) + 1) t) (sym c.make_room.ensures.tally)
    (fewer_numbers (length c.args.outcome.leaves + (length c.args.outcome.sends + 2) + 1) (2 ^ 62) c.args.state.now.pending.tally (omega arith) (has_numbers c.args.state.now c.requires.work.0 c.requires.work.2 c.requires.work.4))))

pub returns-clause-applied : goal.returns-clause-applied
returns-clause-applied g c = λ a was S at L W.
    let after = (goal.at.returns-clause-applied g c).After-finish in
    subst (λ (b : RunState). Stands c.conclude.new.state b) (sym (written_applied a c.args.item.now was (g.B.Node.state c.args.node) c.args.outcome at W))
    (c.conclude.ensures (done_from (home_run a c.args.item.now was (g.B.Node.state c.args.node).kept) c.args.item.now) (stands_finished g after a was S at))
