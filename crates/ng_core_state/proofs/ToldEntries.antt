-- An entry is told.
use Rattle.std.proofs.Common.{◌≡◌, ℕ, List, [], ◌∷◌, ◌++◌, length, map, Bool, true, false, sym, ap, ◌∙◌, subst, arith}
use Rattle.std.specs.Prelude.{nat_le}
use Rattle.std.specs.declared.option.Option.{Option}
use Rattle.ng_base.specs.declared.kind.Kind.{Kind}
use Rattle.ng_machine.specs.declared.item.Item.{Item}
use Rattle.ng_machine.specs.declared.told.Told.{Told}
use Rattle.ng_machine.specs.declared.told.Told.TheVariants.{Frame as ToldFrame}
use Rattle.ng_machine.specs.Change.{most_spool, read_if, spool_with, tell}
use Rattle.ng_machine.specs.Run.{RunState}
use Rattle.ng_machine.specs.SoundRun.{HasNode}
use Rattle.ng_machine.specs.Words.{Has}
use Rattle.ng_machine.specs.World.{World, NodeRecord}
use Rattle.ng_queue.specs.pending.Holds.{HoldsItems, in_world, spooled}
use Rattle.ng_topology.specs.OfWorld.{IsOfWorld}
use Rattle.ng_topology.specs.Topology.{Topology}
use Rattle.ng_core_state.specs.declared.state.State.{State}
use Rattle.ng_core_state.specs.Lent.{Lent}
use Rattle.ng_core_state.specs.Stands.{Stands, port_of}
use Rattle.ng_core_state.proofs.StandsAfter.{SameRest}

-- where numbers alone changed before
pub stands_told : {B : Type 0} (s t : State B) (a : RunState) (w : World) (told : Told) → Stands s a → HoldsItems t.pending (in_world a w) → t.graph ≡ s.graph → length t.pending.queues.lists ≡ length s.pending.queues.lists
    → t.told.items ≡ s.told.items ++ told ∷ [] → t.ports.items ≡ s.ports.items → SameRest a.world w → w.pending ≡ a.world.pending → Stands t (in_world a (tell w told))
stands_told s t a w told S H graph lists more ports R pending = record {
  items = H;
  there = λ p h. subst (λ (nodes : List (Option NodeRecord)). HasNode nodes p) (sym R.nodes) (S.there p (subst (Has p) pending h));
  graph = subst (λ (g : Topology). IsOfWorld g (tell w told)) (sym graph) (record { nodes = S.graph.nodes ∙ sym R.nodes; stock = S.graph.stock ∙ sym R.stock; next_link = S.graph.next_link ∙ sym R.next_link });
  homes = subst (λ (g : Topology). length g.home ≡ length g.nodes) (sym graph) S.homes;
  lent = subst (λ (g : Topology). Lent g w.pending a.taken) (sym graph) (subst (λ (l : List Item). Lent s.graph l a.taken) (sym pending) S.lent);
  places =
      let nodes = ap (λ (l : List (Option NodeRecord)). length l) R.nodes in
      let stock = ap (λ (l : List Kind). length l) R.stock in
      let le = S.places in
      omega arith;
  told = more ∙ ap (λ (l : List Told). l ++ told ∷ []) (S.told ∙ sym R.told);
  ports = ap (map port_of) ports ∙ S.ports ∙ sym R.ports;
}

-- a packet that fits is told
pub read_fits : (w : World) (hook packet : List ℕ) (b : Bool) → nat_le (spool_with w packet) most_spool ≡ b → b ≡ true → tell (spooled true w packet) (ToldFrame hook packet) ≡ read_if w (nat_le (spool_with w packet) most_spool) hook packet
read_fits w hook packet b is fits = sym (ap (λ (c : Bool). read_if w c hook packet) (is ∙ fits))

-- and one that doesn't is lost
pub read_lost : (w : World) (hook packet : List ℕ) (b : Bool) → nat_le (spool_with w packet) most_spool ≡ b → b ≡ false → spooled false w packet ≡ read_if w (nat_le (spool_with w packet) most_spool) hook packet
read_lost w hook packet b is lost = sym (ap (λ (c : Bool). read_if w c hook packet) (is ∙ lost))
