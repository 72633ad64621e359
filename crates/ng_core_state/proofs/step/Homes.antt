-- The box of an item's node is at home.
use Rattle.std.proofs.Common.{◌≡◌, Bool, true, false, refl, subst}
use Rattle.std.specs.declared.option.Option.TheVariants.{Some}
use Rattle.ng_machine.specs.declared.item.Item.{Item}
use Rattle.ng_machine.specs.Desk.{Writes, job_at}
use Rattle.ng_machine.specs.Run.{RunState}
use Rattle.ng_machine.specs.World.{NodeRecord, node_in, state_of}
use Rattle.ng_machine.proofs.NodeLists.{node_same}
use Rattle.ng_topology.specs.Topology.{is_home}
use Rattle.ng_core_state.specs.declared.state.State.{State}
use Rattle.ng_core_state.specs.Stands.{Stands}
use Rattle.ng_core_state.specs.step.Boxes.{IsAloneIn, LeavesBox}

-- where the item isn't worked on with the box and no other writer of the node is taken
pub box_is_home : {B : Type 0} (s : State B) (a : RunState) (item : Item) (node : NodeRecord) → Stands s a → IsAloneIn a item
    → node_in s.graph.nodes item.to ≡ Some node → LeavesBox item node → is_home s.graph item.to ≡ true
box_is_home s a item node S alone here leaves = by (is_home s.graph item.to) refl
  where
    by : (b : Bool) → is_home s.graph item.to ≡ b → is_home s.graph item.to ≡ true
    by true e = e
    by false e =
        let W = S.lent item.to.0 node here e in
        let same : W.item ≡ item = alone W.item W.is_pending W.is_taken (node_same W.item.to item.to W.node_is) W.writes in
        absurd (leaves (state_of node) (subst (λ (x : Item). job_at x (Some node) ≡ Writes x (state_of node)) same W.job))
