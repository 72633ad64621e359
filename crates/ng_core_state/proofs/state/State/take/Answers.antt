use Rattle.std.proofs.Common.{◌≡◌, ◌∙◌, sym, ap, subst}
use Rattle.std.specs.declared.option.Option.TheVariants.{Some}
use Rattle.ng_machine.specs.declared.item.Item.{Item}
use Rattle.ng_machine.specs.Desk.{Writes, frame_job, job_at, job_of}
use Rattle.ng_machine.specs.Run.{RunState}
use Rattle.ng_machine.specs.World.{node_at, node_in, state_of}
use Rattle.ng_queue.specs.pending.Holds.{with_taken}
use Rattle.ng_queue.specs.Queue.{head}
use Rattle.ng_queue.specs.Queues.{list_at}
use Rattle.ng_topology.specs.Topology.{IsAtHome, Topology, is_home}
use Rattle.ng_core_state.specs.declared.handed.Tool.{Tool}
use Rattle.ng_core_state.specs.declared.state.State.{State}
use Rattle.ng_core_state.specs.Handed.{IsJobBy}
use Rattle.ng_core_state.specs.Lent.{WriterOut}
use Rattle.ng_core_state.specs.Stands.{Stands}
use Rattle.ng_core_state.proofs.Plans.{writes_item}
use Rattle.ng_core_state.proofs.TakenItems.{ItemNode, item_node, least_home, next_job, writer_out}
use Rattle.ng_core_state.proofs.state.State.take.Goals as goal
use Rattle.ng_core_state.proofs.state.State.take.Goals.{After-take_at-item-in-Node}

-- the node of an item that is worked on with it
place : (g : _) (c : After-take_at-item-in-Node g) (a : RunState) → Stands c.args.self.now a → ItemNode c.args.self.now a c.take_at-item-in-Node.result
place g c a S = item_node c.args.self.now a c.take_at-item-in-Node.result S (c.take_at-item-in-Node.ensures.next a S).0.may.pending

works : (g : _) (c : After-take_at-item-in-Node g) (a : RunState) (S : Stands c.args.self.now a) → job_of a.world c.take_at-item-in-Node.result ≡ Writes c.take_at-item-in-Node.result (state_of (place g c a S).node)
works g c a S =
    let N = place g c a S in
    subst (λ (t : Tool). IsJobBy t c.take_at-item-in-Node.result N.node (job_of a.world c.take_at-item-in-Node.result)) c.in-Node.is
    (next_job c.args.self.now a c.in-Some.at c.in-Some.tool c.take_at-item-in-Node.result N.node S c.take_at-item-in-Node.ensures.head N.node_is c.in-Some.ensures.tool)

-- a writer is out from now on
out_now : (g : _) (c : After-take_at-item-in-Node g) (a : RunState) (S : Stands c.args.self.now a) → WriterOut (place g c a S).node a.world.pending (with_taken a c.take_at-item-in-Node.result.id.0 c.args.seat).taken c.take_at-item-in-Node.result.to.0
out_now g c a S =
    let N = place g c a S in
    let job : job_at c.take_at-item-in-Node.result (Some N.node) ≡ Writes c.take_at-item-in-Node.result (state_of N.node) = sym (ap (job_at c.take_at-item-in-Node.result) N.node_is) ∙ works g c a S in
    writer_out a c.take_at-item-in-Node.result c.args.seat N.node (c.take_at-item-in-Node.ensures.next a S).0.may.pending (writes_item c.take_at-item-in-Node.result N.node N.mode job) job

pub lend-node-requires-clause-home : goal.lend-node-requires-clause-home
lend-node-requires-clause-home g c κs within =
    let at = (goal.at.lend-node-requires-clause-home g c).After-take_at-item-in-Node in
    let N = place g at c.requires.standing.0 c.requires.standing.1 in
    subst (λ (x : Item). IsAtHome c.take_at-item-in-Node.new.self.graph x.to) (sym c.deref.ensures)
    (ap (λ (t : Topology). is_home t c.take_at-item-in-Node.result.to) c.take_at-item-in-Node.ensures.graph
    ∙ least_home c.args.self.now c.requires.standing.0 c.take_at-item-in-Node.result N.node c.requires.standing.1 (c.take_at-item-in-Node.ensures.next c.requires.standing.0 c.requires.standing.1).0.may N.here)

pub lend-node-requires-clause-planned : goal.lend-node-requires-clause-planned
lend-node-requires-clause-planned g c κs within = λ node here.
    c.in_ok-plan-in-Node.ensures c.take_at-item-in-Node.result node c.take_at-item-in-Node.ensures.head
    (ap (λ (t : Topology). node_in t.nodes c.take_at-item-in-Node.result.to) (sym c.take_at-item-in-Node.ensures.graph)
    ∙ subst (λ (x : Item). node_in c.take_at-item-in-Node.new.self.graph.nodes x.to ≡ Some node) c.deref.ensures here)

pub returns-in_ok-plan-in-Plan-clause-work : goal.returns-in_ok-plan-in-Plan-clause-work
returns-in_ok-plan-in-Plan-clause-work g c = λ a S.
    let same = c.in_ok-plan-in-Plan.ensures.same in
    let next = (c.take_at-item.ensures.next a (subst (λ (s : State g.row.B.Denot). Stands s a) (sym same) S)).0 in
    let head_is : head (list_at c.args.self.now.pending.queues.lists c.in-Some.at) ≡ Some c.take_at-item.result =
    subst (λ (s : State g.row.B.Denot). head (list_at s.pending.queues.lists c.in-Some.at) ≡ Some c.take_at-item.result) same c.take_at-item.ensures.head in
    let N = item_node c.args.self.now a c.take_at-item.result S next.may.pending in
    let job = subst (λ (t : Tool). IsJobBy t c.take_at-item.result N.node (job_of a.world c.take_at-item.result)) c.in-Plan.is
    (next_job c.args.self.now a c.in-Some.at c.in-Some.tool c.take_at-item.result N.node S head_is N.node_is c.in-Some.ensures.tool) in
    sym (job.job_is ∙ ap (frame_job c.take_at-item.result (state_of N.node)) (c.in_ok-plan-in-Plan.ensures.plan a c.take_at-item.result N.node S head_is N.node_is))

pub returns-in_ok-plan-in-Node-clause-work : goal.returns-in_ok-plan-in-Node-clause-work
returns-in_ok-plan-in-Node-clause-work g c = λ a S.
    let at = (goal.at.returns-in_ok-plan-in-Node-clause-work g c).After-take_at-item-in-Node in
    let N = place g at a S in
    let here : node_in c.take_at-item-in-Node.new.self.graph.nodes c.deref.result.now.to ≡ Some N.node = subst (λ (x : Item). node_in c.take_at-item-in-Node.new.self.graph.nodes x.to ≡ Some N.node) (sym c.deref.ensures)
    (ap (λ (t : Topology). node_in t.nodes c.take_at-item-in-Node.result.to) c.take_at-item-in-Node.ensures.graph ∙ N.here) in
    ap (Writes c.take_at-item-in-Node.result) (c.lend-node.ensures.node N.node here) ∙ sym (works g at a S)

pub returns-in_ok-plan-in-Node-clause-after : goal.returns-in_ok-plan-in-Node-clause-after
returns-in_ok-plan-in-Node-clause-after g c = λ a S.
    let at = (goal.at.returns-in_ok-plan-in-Node-clause-after g c).After-take_at-item-in-Node in
    let N = place g at a S in
    let here : node_at a.world c.deref.result.now.to ≡ Some N.node = subst (λ (x : Item). node_at a.world x.to ≡ Some N.node) (sym c.deref.ensures) N.node_is in
    let out : WriterOut N.node a.world.pending (with_taken a c.take_at-item-in-Node.result.id.0 c.args.seat).taken c.deref.result.now.to.0 =
    subst (λ (x : Item). WriterOut N.node a.world.pending (with_taken a c.take_at-item-in-Node.result.id.0 c.args.seat).taken x.to.0) (sym c.deref.ensures) (out_now g at a S) in
    c.lend-node.ensures.stands (with_taken a c.take_at-item-in-Node.result.id.0 c.args.seat) N.node (c.take_at-item-in-Node.ensures.after a S) here out

pub returns-in-Nothing-clause-work : goal.returns-in-Nothing-clause-work
returns-in-Nothing-clause-work g c = λ a S.
    let N = item_node c.args.self.now a c.take_at-item-in-Nothing.result S (c.take_at-item-in-Nothing.ensures.next a S).0.may.pending in
    sym (subst (λ (t : Tool). IsJobBy t c.take_at-item-in-Nothing.result N.node (job_of a.world c.take_at-item-in-Nothing.result)) c.in-Nothing.is
    (next_job c.args.self.now a c.in-Some.at c.in-Some.tool c.take_at-item-in-Nothing.result N.node S c.take_at-item-in-Nothing.ensures.head N.node_is c.in-Some.ensures.tool))
