use Rattle.std.proofs.Common.{◌≡◌, ◌∙◌, inr, List, true, ◌+◌, ◌^◌, length, sym, ap, subst, arith}
use Rattle.std.specs.declared.option.Option.{Option}
use Rattle.std.specs.declared.option.Option.TheVariants.{Some}
use Rattle.ng_base.specs.declared.ids.NodeId.{NodeId}
use Rattle.ng_machine.specs.declared.item.Item.{Item}
use Rattle.ng_machine.specs.Run.{RunState}
use Rattle.ng_machine.specs.World.{NodeRecord, node_at}
use Rattle.ng_queue.specs.pending.Holds.{done_from, with_taken}
use Rattle.ng_queue.specs.declared.entry.Entry.{Entry}
use Rattle.ng_queue.specs.Queue.{head}
use Rattle.ng_queue.specs.Queues.{list_at}
use Rattle.ng_core_state.specs.step.Applied.{IsAtNode, applied_from}
use Rattle.ng_queue.specs.declared.tally.tally.Tally.{Tally}
use Rattle.ng_queue.specs.tally.Tally.{HasNumbers}
use Rattle.ng_topology.specs.Topology.{Topology, is_home}
use Rattle.ng_core_state.specs.declared.state.State.{State}
use Rattle.ng_core_state.specs.Stands.{Stands}
use Rattle.ng_core_state.proofs.TakenItems.{same_some}
use Rattle.ng_core_state.specs.service.Followers.{one_at, target_by}
use Rattle.ng_core_state.specs.service.Front.{HasFront}
use Rattle.ng_core_state.specs.service.Room.{HasRoomToLeave}
use Rattle.ng_core_state.specs.service.Work.{IsReadAt}
use Rattle.ng_core_state.proofs.service.Fronts.{front_stays}
use Rattle.ng_core_state.proofs.service.LeavingRoom.{leaving_kept}
use Rattle.ng_core_state.proofs.service.NextReads.{next_at, next_home, next_is}
use Rattle.ng_core_state.proofs.service.Numbers.{has_numbers}
use Rattle.ng_queue.proofs.tally.NumberLemmas.{fewer_numbers}
use Rattle.ng_core_state.proofs.service.serving.serve_read.Goals as goal
use Rattle.ng_core_state.proofs.service.serving.serve_read.Goals.{After-deref}

pub dequeue-item-requires-clause-leaves : goal.dequeue-item-requires-clause-leaves
dequeue-item-requires-clause-leaves g c κs within = λ item e.
    let was = ap (λ (l : List (List Entry)). head (list_at l c.args.at)) (sym c.make_room.ensures.lists) ∙ e in
    inr (ap (λ (t : Topology). is_home t item.to) c.make_room.ensures.graph ∙ next_home c.args.state.now c.requires.work.0 c.args.at item c.requires.work.3 c.requires.least was)

pub dequeue-item-requires-clause-numbers : goal.dequeue-item-requires-clause-numbers
dequeue-item-requires-clause-numbers g c κs within =
    subst (λ (t : Tally). HasNumbers 1 t) (sym c.make_room.ensures.tally) (fewer_numbers 1 (2 ^ 62) c.args.state.now.pending.tally (omega arith) (has_numbers c.args.state.now c.requires.work.0 c.requires.work.3 c.requires.work.6))

-- the item that left the queue is the one that was its head
same_item : (g : _) (c : After-deref g) (item : Item) → head (list_at c.args.state.now.pending.queues.lists c.args.at) ≡ Some item → c.dequeue-item.result ≡ item
same_item g c item e = same_some c.dequeue-item.result item (sym c.dequeue-item.ensures.head ∙ ap (λ (l : List (List Entry)). head (list_at l c.args.at)) c.make_room.ensures.lists ∙ e)

-- what is so of it once it is done
stands_done : (g : _) (c : After-deref g) (a : RunState) (item : Item) → Stands c.args.state.now a → head (list_at c.args.state.now.pending.queues.lists c.args.at) ≡ Some item
    → Stands c.dequeue-item.new.state (done_from (with_taken a item.id.0 c.args.seat) item)
stands_done g c a item S e =
    subst (λ (x : Item). Stands c.dequeue-item.new.state (done_from (with_taken a x.id.0 c.args.seat) x)) (same_item g c item e) (c.dequeue-item.ensures.stands a (c.make_room.ensures.stands a S))

at_node : (g : _) (c : After-deref g) (a : RunState) (item : Item) (node : NodeRecord) → Stands c.args.state.now a → head (list_at c.args.state.now.pending.queues.lists c.args.at) ≡ Some item → node_at a.world item.to ≡ Some node
    → IsAtNode (with_taken a item.id.0 c.args.seat) item node
at_node g c a item node S e here = next_at c.args.state.now a item node c.args.seat S (next_is c.args.state.now a c.args.at item S c.requires.least e) here

pub bring_about-requires-clause-work : goal.bring_about-requires-clause-work
bring_about-requires-clause-work g c κs within =
    let at = (goal.at.bring_about-requires-clause-work g c).After-deref in
    let a = c.requires.work.0 in
    let item = c.requires.work.1 in
    let node = c.requires.work.2 in
    let same = sym (c.deref.ensures ∙ same_item g at item c.requires.work.4) in (
      with_taken a c.deref.result.now.id.0 c.args.seat,
      node,
      subst (λ (x : Item). Stands c.dequeue-item.new.state (done_from (with_taken a x.id.0 c.args.seat) x)) same (stands_done g at a item c.requires.work.3 c.requires.work.4),
      subst (λ (x : Item). IsAtNode (with_taken a x.id.0 c.args.seat) x node) same (at_node g at a item node c.requires.work.3 c.requires.work.4 c.requires.work.5),
      subst (λ (x : Item). IsReadAt x node c.args.outcome.now) same c.requires.work.7,
    )

pub bring_about-requires-clause-home : goal.bring_about-requires-clause-home
bring_about-requires-clause-home g c κs within =
    let at = (goal.at.bring_about-requires-clause-home g c).After-deref in
    let item = c.requires.work.1 in
    subst (λ (x : Item). is_home c.dequeue-item.new.state.graph x.to ≡ true) (sym (c.deref.ensures ∙ same_item g at item c.requires.work.4))
    (ap (λ (t : Topology). is_home t item.to) (c.dequeue-item.ensures.graph ∙ c.make_room.ensures.graph) ∙ next_home c.args.state.now c.requires.work.0 c.args.at item c.requires.work.3 c.requires.least c.requires.work.4)

pub bring_about-requires-clause-leaving : goal.bring_about-requires-clause-leaving
bring_about-requires-clause-leaving g c κs within =
    let at = (goal.at.bring_about-requires-clause-leaving g c).After-deref in
    subst (λ (x : Item). HasRoomToLeave x.to (length c.args.outcome.now.leaves) c.dequeue-item.new.state) (sym (c.deref.ensures ∙ same_item g at c.head-head.result.now c.head-head.ensures))
    (leaving_kept c.make_room.new.state c.dequeue-item.new.state c.requires.work.0 c.head-head.result.now.to (length c.args.outcome.now.leaves) (c.make_room.ensures.stands c.requires.work.0 c.requires.work.3) c.requires.work.6
    c.dequeue-item.ensures.told c.dequeue-item.ensures.ports (let few = c.make_room.ensures.few in omega arith) c.in_ok-make_room.ensures.told c.in_ok-make_room.ensures.port)

pub bring_about-requires-clause-room : goal.bring_about-requires-clause-room
bring_about-requires-clause-room g c κs within =
    let at = (goal.at.bring_about-requires-clause-room g c).After-deref in
    let e = c.dequeue-item.ensures.frames in
    subst (λ (x : Item). HasFront 0 c.dequeue-item.new.state.graph x.to (one_at (target_by x.to x.body c.args.outcome.now.learn c.args.outcome.now.answer)) c.args.outcome.now.sends c.dequeue-item.new.state.pending)
    (sym (c.deref.ensures ∙ same_item g at c.head-head.result.now c.head-head.ensures))
    (front_stays 1 0 c.args.state.now.graph c.dequeue-item.new.state.graph c.head-head.result.now.to (one_at (target_by c.head-head.result.now.to c.head-head.result.now.body c.args.outcome.now.learn c.args.outcome.now.answer)) c.args.outcome.now.sends
    c.make_room.new.state.pending c.dequeue-item.new.state.pending (c.dequeue-item.ensures.graph ∙ c.make_room.ensures.graph) c.dequeue-item.ensures.spares c.dequeue-item.ensures.lists (omega arith)
    (subst (λ (o : Option NodeId). HasFront 1 c.args.state.now.graph c.head-head.result.now.to (one_at o) c.args.outcome.now.sends c.make_room.new.state.pending) c.target-target.ensures c.in_ok-make_room.ensures.room))

pub bring_about-requires-clause-numbers : goal.bring_about-requires-clause-numbers
bring_about-requires-clause-numbers g c κs within =
    let few = c.make_room.ensures.few in
    c.dequeue-item.ensures.numbers (length c.args.outcome.now.leaves + (length c.args.outcome.now.sends + 2))
    (subst (λ (t : Tally). HasNumbers (length c.args.outcome.now.leaves + (length c.args.outcome.now.sends + 2) + 1) t) (sym c.make_room.ensures.tally)
    (fewer_numbers (length c.args.outcome.now.leaves + (length c.args.outcome.now.sends + 2) + 1) (2 ^ 62) c.args.state.now.pending.tally (omega arith) (has_numbers c.args.state.now c.requires.work.0 c.requires.work.3 c.requires.work.6)))

pub returns-clause-served : goal.returns-clause-served
returns-clause-served g c = λ a item node S e here L R.
    let at = (goal.at.returns-clause-served g c).After-deref in
    let same = c.deref.ensures ∙ same_item g at item e in
    let applied = c.bring_about.ensures (with_taken a c.deref.result.now.id.0 c.args.seat) node
    (subst (λ (x : Item). Stands c.dequeue-item.new.state (done_from (with_taken a x.id.0 c.args.seat) x)) (sym same) (stands_done g at a item S e))
    (subst (λ (x : Item). IsAtNode (with_taken a x.id.0 c.args.seat) x node) (sym same) (at_node g at a item node S e here))
    (subst (λ (x : Item). IsReadAt x node c.args.outcome.now) (sym same) R) in
    subst (λ (s : State g.row.B.Denot). Stands s (applied_from (with_taken a item.id.0 c.args.seat) item)) (sym c.reuse.ensures)
    (subst (λ (x : Item). Stands c.bring_about.new.state (applied_from (with_taken a x.id.0 c.args.seat) x)) same applied)
