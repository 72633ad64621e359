-- A packet leaves.
use Rattle.std.proofs.Common.{◌≡◌, ℕ, List, length, map, Bool, true, false, refl, sym, ap, ◌∙◌, subst, arith}
use Rattle.std.specs.Prelude.{nat_le}
use Rattle.std.specs.declared.option.Option.{Option}
use Rattle.ng_base.specs.declared.ids.Stamp.{Stamp}
use Rattle.ng_base.specs.declared.kind.Kind.{Kind}
use Rattle.ng_machine.specs.declared.item.Item.{Item}
use Rattle.ng_machine.specs.Change.{most_spool, read_if, spool_with, wire_if}
use Rattle.ng_machine.specs.Run.{RunState}
use Rattle.ng_machine.specs.SoundRun.{HasNode}
use Rattle.ng_machine.specs.Words.{Has}
use Rattle.ng_machine.specs.World.{World, NodeRecord}
use Rattle.ng_queue.specs.pending.Holds.{HoldsItems, in_world, spooled}
use Rattle.ng_topology.specs.OfWorld.{IsOfWorld}
use Rattle.ng_topology.specs.Topology.{Topology}
use Rattle.ng_core_state.specs.declared.state.State.{State}
use Rattle.ng_core_state.specs.Lent.{Lent}
use Rattle.ng_core_state.specs.Stands.{Stands, port_of}

-- what is told, what left and numbers alone changed
pub record SameInside (w v : World) : Type 0 where
  pub nodes : v.nodes ≡ w.nodes
  pub stock : v.stock ≡ w.stock
  pub next_link : v.next_link ≡ w.next_link
  pub pending : v.pending ≡ w.pending

pub stands_outside : {B : Type 0} (s t : State B) (a : RunState) (w : World) → Stands s a → HoldsItems t.pending (in_world a w) → t.graph ≡ s.graph → length t.pending.queues.lists ≡ length s.pending.queues.lists
    → t.told.items ≡ w.told → map port_of t.ports.items ≡ w.ports → SameInside a.world w → Stands t (in_world a w)
stands_outside s t a w S H graph lists told ports R = record {
  items = H;
  there = λ p h. subst (λ (nodes : List (Option NodeRecord)). HasNode nodes p) (sym R.nodes) (S.there p (subst (Has p) R.pending h));
  graph = subst (λ (g : Topology). IsOfWorld g w) (sym graph) (record { nodes = S.graph.nodes ∙ sym R.nodes; stock = S.graph.stock ∙ sym R.stock; next_link = S.graph.next_link ∙ sym R.next_link });
  homes = subst (λ (g : Topology). length g.home ≡ length g.nodes) (sym graph) S.homes;
  lent = subst (λ (g : Topology). Lent g w.pending a.taken) (sym graph) (subst (λ (l : List Item). Lent s.graph l a.taken) (sym R.pending) S.lent);
  places =
      let nodes = ap (λ (l : List (Option NodeRecord)). length l) R.nodes in
      let stock = ap (λ (l : List Kind). length l) R.stock in
      let le = S.places in
      omega arith;
  told = told;
  ports = ports;
}

-- by the wire
pub stands_wired : {B : Type 0} (s t : State B) (a : RunState) (port : ℕ) (b : Bool) (packet : List ℕ) (stamp : Stamp) → Stands s a → HoldsItems t.pending (in_world a (spooled b a.world packet)) → t.graph ≡ s.graph
    → length t.pending.queues.lists ≡ length s.pending.queues.lists → t.told.items ≡ s.told.items → nat_le (spool_with a.world packet) most_spool ≡ b
    → map port_of t.ports.items ≡ (wire_if a.world port b packet stamp).ports → Stands t (in_world a (wire_if a.world port (nat_le (spool_with a.world packet) most_spool) packet stamp))
stands_wired s t a port b packet stamp S H graph lists told is ports =
    subst (λ (x : Bool). Stands t (in_world a (wire_if a.world port x packet stamp))) (sym is) (by b H ports)
  where
    by : (x : Bool) → HoldsItems t.pending (in_world a (spooled x a.world packet)) → map port_of t.ports.items ≡ (wire_if a.world port x packet stamp).ports → Stands t (in_world a (wire_if a.world port x packet stamp))
    by true h p = stands_outside s t a (wire_if a.world port true packet stamp) S h graph lists (told ∙ S.told) p (record { nodes = refl; stock = refl; next_link = refl; pending = refl })
    by false h p = stands_outside s t a (wire_if a.world port false packet stamp) S h graph lists (told ∙ S.told) p (record { nodes = refl; stock = refl; next_link = refl; pending = refl })

-- to the reader
pub stands_read : {B : Type 0} (s t : State B) (a : RunState) (b : Bool) (hook packet : List ℕ) → Stands s a → HoldsItems t.pending (in_world a (spooled b a.world packet)) → t.graph ≡ s.graph
    → length t.pending.queues.lists ≡ length s.pending.queues.lists → t.told.items ≡ (read_if a.world b hook packet).told → nat_le (spool_with a.world packet) most_spool ≡ b
    → t.ports.items ≡ s.ports.items → Stands t (in_world a (read_if a.world (nat_le (spool_with a.world packet) most_spool) hook packet))
stands_read s t a b hook packet S H graph lists told is ports =
    subst (λ (x : Bool). Stands t (in_world a (read_if a.world x hook packet))) (sym is) (by b H told)
  where
    by : (x : Bool) → HoldsItems t.pending (in_world a (spooled x a.world packet)) → t.told.items ≡ (read_if a.world x hook packet).told → Stands t (in_world a (read_if a.world x hook packet))
    by true h e = stands_outside s t a (read_if a.world true hook packet) S h graph lists e (ap (map port_of) ports ∙ S.ports) (record { nodes = refl; stock = refl; next_link = refl; pending = refl })
    by false h e = stands_outside s t a (read_if a.world false hook packet) S h graph lists e (ap (map port_of) ports ∙ S.ports) (record { nodes = refl; stock = refl; next_link = refl; pending = refl })
