-- What is kept stands for a run whose items and numbers alone are others.
use Rattle.std.proofs.Common.{◌≡◌, List, length, map, sym, ap, ◌∙◌, subst, arith}
use Rattle.std.specs.declared.option.Option.{Option}
use Rattle.ng_base.specs.declared.kind.Kind.{Kind}
use Rattle.ng_machine.specs.declared.item.Item.{Item}
use Rattle.ng_machine.specs.Run.{RunState}
use Rattle.ng_machine.specs.SoundRun.{HasNode}
use Rattle.ng_machine.specs.Words.{Has}
use Rattle.ng_machine.specs.World.{World, NodeRecord}
use Rattle.ng_queue.specs.pending.Holds.{HoldsItems}
use Rattle.ng_topology.specs.OfWorld.{IsOfWorld}
use Rattle.ng_topology.specs.Topology.{Topology}
use Rattle.ng_core_state.specs.declared.state.State.{State}
use Rattle.ng_core_state.specs.Lent.{Lent}
use Rattle.ng_core_state.specs.Stands.{Stands, port_of}

-- the parts of the world that aren't items or numbers
pub record SameRest (w v : World) : Type 0 where
  pub nodes : v.nodes ≡ w.nodes
  pub stock : v.stock ≡ w.stock
  pub next_link : v.next_link ≡ w.next_link
  pub told : v.told ≡ w.told
  pub ports : v.ports ≡ w.ports

pub stands_with : {B : Type 0} (s t : State B) (a b : RunState) → Stands s a → HoldsItems t.pending b → t.graph ≡ s.graph → length t.pending.queues.lists ≡ length s.pending.queues.lists
    → t.told.items ≡ s.told.items → t.ports.items ≡ s.ports.items → SameRest a.world b.world → ((item : Item) → Has item b.world.pending → HasNode b.world.nodes item) → Lent s.graph b.world.pending b.taken
    → Stands t b
stands_with s t a b S H graph lists told ports R there lent = record {
  items = H;
  there = there;
  graph = subst (λ (g : Topology). IsOfWorld g b.world) (sym graph) (record { nodes = S.graph.nodes ∙ sym R.nodes; stock = S.graph.stock ∙ sym R.stock; next_link = S.graph.next_link ∙ sym R.next_link });
  homes = subst (λ (g : Topology). length g.home ≡ length g.nodes) (sym graph) S.homes;
  lent = subst (λ (g : Topology). Lent g b.world.pending b.taken) (sym graph) lent;
  places =
      let nodes = ap (λ (l : List (Option NodeRecord)). length l) R.nodes in
      let stock = ap (λ (l : List Kind). length l) R.stock in
      let le = S.places in
      omega arith;
  told = told ∙ S.told ∙ sym R.told;
  ports = ap (map port_of) ports ∙ S.ports ∙ sym R.ports;
}
