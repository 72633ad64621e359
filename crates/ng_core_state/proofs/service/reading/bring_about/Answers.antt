use Rattle.std.proofs.Common.{◌∙◌, ◌+◌, length, set, refl, sym, ap, subst, arith}
use Rattle.std.specs.declared.option.Option.TheVariants.{Some}
use Rattle.ng_machine.specs.declared.item.Item.{Item}
use Rattle.ng_machine.specs.declared.outcome.Outcome.{Outcome}
use Rattle.ng_machine.specs.Case.{absorb}
use Rattle.ng_machine.specs.Run.{RunState}
use Rattle.ng_machine.specs.World.{NodeRecord, node_in}
use Rattle.ng_queue.specs.declared.pending.pending.Pending.{Pending}
use Rattle.ng_queue.specs.pending.Holds.{done_from, in_world}
use Rattle.ng_queue.specs.tally.Tally.{HasNumbers}
use Rattle.ng_core_state.specs.step.Applied.{IsAtNode}
use Rattle.ng_topology.specs.Topology.{Topology, with_kept}
use Rattle.ng_core_state.specs.Stands.{Stands}
use Rattle.ng_core_state.specs.Room.{wants}
use Rattle.ng_core_state.specs.service.Followers.{follows, one_at, target_by}
use Rattle.ng_core_state.specs.service.Front.{goers}
use Rattle.ng_core_state.proofs.service.LeavingRoom.{leaving_same}
use Rattle.ng_core_state.proofs.service.Changes.{applied_set}
use Rattle.ng_core_state.proofs.service.Fronts.{front_moved, goers_changed}
use Rattle.ng_core_state.proofs.service.NodesChanged.{wants_changed}
use Rattle.ng_core_state.proofs.service.Readings.{read_effect, read_may, read_stands}
use Rattle.ng_core_state.proofs.service.reading.bring_about.Goals as goal
use Rattle.ng_core_state.proofs.service.reading.bring_about.Goals.{After-absorb}

-- the run after the counts reached the node
abbrev absorbed_run : RunState → Item → NodeRecord → Outcome → RunState
absorbed_run a item node outcome = in_world (done_from a item) (record ((done_from a item).world) { nodes = set a.world.nodes item.to.0 (Some (with_kept (absorb node.kept outcome.counts) node)) })

stands_absorbed : (g : _) (c : After-absorb g) (a : RunState) (node : NodeRecord) → Stands c.args.state.now (done_from a c.args.item.now) → IsAtNode a c.args.item.now node → Stands c.absorb.new.state (absorbed_run a c.args.item.now node c.args.outcome.now)
stands_absorbed g c a node S at = c.absorb.ensures.stands (done_from a c.args.item.now) node S at.here

pub conclude-requires-clause-standing : goal.conclude-requires-clause-standing
conclude-requires-clause-standing g c κs within =
    let at = (goal.at.conclude-requires-clause-standing g c).After-absorb in
    (absorbed_run c.requires.work.0 c.args.item.now c.requires.work.1 c.args.outcome.now, stands_absorbed g at c.requires.work.0 c.requires.work.1 c.requires.work.2 c.requires.work.3)

pub conclude-requires-clause-may : goal.conclude-requires-clause-may
conclude-requires-clause-may g c κs within = λ fine. read_may c.args.item.now c.requires.work.1 c.args.outcome.now c.requires.work.4

pub conclude-requires-clause-leaving : goal.conclude-requires-clause-leaving
conclude-requires-clause-leaving g c κs within = leaving_same c.args.state.now c.absorb.new.state c.args.item.now.to (length c.args.outcome.now.leaves) c.requires.leaving c.absorb.ensures.told c.absorb.ensures.ports

pub conclude-requires-clause-room : goal.conclude-requires-clause-room
conclude-requires-clause-room g c κs within =
    let f = λ (node : NodeRecord). with_kept (absorb node.kept c.args.outcome.now.counts) node in
    let e = ap (λ (p : Pending). p.tally.frames) c.absorb.ensures.pending in
    front_moved 0 0 c.args.state.now.graph c.absorb.new.state.graph c.args.item.now.to (one_at (target_by c.args.item.now.to c.args.item.now.body c.args.outcome.now.learn c.args.outcome.now.answer)) c.args.outcome.now.sends
    c.args.state.now.pending c.absorb.new.state.pending
    (λ front n. ap (λ (t : Topology). wants (node_in t.nodes c.args.item.now.to) front n) c.absorb.ensures.graph ∙ wants_changed c.args.state.now.graph.nodes c.args.item.now.to f front n (λ r. refl))
    (λ front. ap (λ (t : Topology). goers t.nodes c.args.item.now.to front) c.absorb.ensures.graph ∙ goers_changed c.args.state.now.graph.nodes c.args.item.now.to f front (λ r. refl))
    (ap (λ (p : Pending). p.queues.spares) c.absorb.ensures.pending) (ap (λ (p : Pending). length p.queues.lists) c.absorb.ensures.pending) (omega arith) c.requires.room

pub conclude-requires-clause-numbers : goal.conclude-requires-clause-numbers
conclude-requires-clause-numbers g c κs within = subst (λ (p : Pending). HasNumbers (length c.args.outcome.now.leaves + (length c.args.outcome.now.sends + 2)) p.tally) (sym c.absorb.ensures.pending) c.requires.numbers

pub returns : goal.returns
returns g c = λ a node S at R.
    let after = (goal.at.returns g c).After-absorb in
    subst (λ (b : RunState). Stands c.conclude.new.state b)
    (sym (applied_set a c.args.item.now node (with_kept (absorb node.kept c.args.outcome.now.counts) node) (follows c.args.item.now c.args.outcome.now) at (read_stands c.args.item.now node c.args.outcome.now R)
    (read_effect (done_from a c.args.item.now).world c.args.item.now node c.args.outcome.now R)))
    (c.conclude.ensures (absorbed_run a c.args.item.now node c.args.outcome.now) (stands_absorbed g after a node S at))
