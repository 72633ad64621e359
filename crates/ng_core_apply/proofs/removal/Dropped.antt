-- What follows of items that are dropped comes one item after another.
use Rattle.std.proofs.Common.{◌≡◌, ◌∙◌, ℕ, ◌+◌, ◌≤◌, List, ◌∷◌, length, flat_map, sym, ap, subst, arith}
use Rattle.std.specs.Prelude.{vec_len, vec_capacity}
use Rattle.ng_base.specs.declared.ids.NodeId.{NodeId}
use Rattle.ng_base.specs.declared.ids.Stamp.{Stamp}
use Rattle.ng_machine.specs.declared.item.Item.{Item}
use Rattle.ng_machine.specs.Change.{change_all}
use Rattle.ng_machine.specs.Retire.{aftermath}
use Rattle.ng_machine.specs.Run.{RunState}
use Rattle.ng_machine.specs.World.{World, node_id, node_in}
use Rattle.ng_queue.specs.pending.Holds.{in_world}
use Rattle.ng_queue.specs.pending.Room.{Spends}
use Rattle.ng_queue.specs.Queues.{spare_at}
use Rattle.ng_queue.specs.tally.Tally.{HasNumbers}
use Rattle.ng_queue.specs.tie.TieLaws.{one}
use Rattle.ng_topology.specs.Topology.{Topology}
use Rattle.ng_core_state.specs.declared.state.State.{State}
use Rattle.ng_core_state.specs.Stands.{IsStanding, Stands}
use Rattle.ng_core_apply.specs.removal.Drops.{HasRoomThere, is_node, undoes, undone_by}
use Rattle.ng_core_apply.proofs.removal.Following.{change_both}
use Rattle.ng_core_apply.proofs.removal.Rooms.{undoes_less}

-- what follows of the rest leads to the same world, and there is room for it
pub record IsFollowed {B : Type 0} (old s : State B) (stamp : Stamp) (all rest : List Item) : Type 0 where
  pub standing : IsStanding s
  pub told : vec_len s.told + length rest ≤ vec_capacity s.told
  pub room : HasRoomThere (undoes rest) s
  pub numbers : HasNumbers (length rest) s.pending.tally
  pub graph : s.graph ≡ old.graph
  pub stands : (a : RunState) (at : NodeId) → Stands old a → (v : World) × Stands s (in_world a v) × (change_all at stamp v (flat_map aftermath rest) ≡ change_all at stamp a.world (flat_map aftermath all))

-- and of the next one
pub followed : {B : Type 0} (old s t : State B) (stamp : Stamp) (all : List Item) (item : Item) (items rest : List Item) → rest ≡ item ∷ items → IsFollowed old s stamp all rest
    → ((a : RunState) (at : NodeId) → Stands s a → Stands t (in_world a (change_all at stamp a.world (aftermath item))))
    → ((n : ℕ) → vec_len s.told + (n + 1) ≤ vec_capacity s.told → vec_len t.told + n ≤ vec_capacity t.told)
    → Spends (λ n. one (is_node n (undone_by item.body))) s.pending t.pending → t.graph ≡ s.graph → ((k : ℕ) → HasNumbers (k + 1) s.pending.tally → HasNumbers k t.pending.tally)
    → IsFollowed old t stamp all items
followed old s t stamp all item items rest next F stands told spares graph numbers =
    let more : length rest ≡ length items + 1 = ap (λ (l : List Item). length l) next ∙ (omega arith) in
    record {
      standing = let W = F.standing in (in_world W.0 (change_all (node_id 0) stamp W.0.world (aftermath item)), stands W.0 (node_id 0) W.1);
      told = told (length items) (let before = F.told in omega arith);
      room = λ n node here. undoes_less item items rest n (spare_at s.pending.queues.spares n) (spare_at t.pending.queues.spares n) next
          (F.room n node (ap (λ (g : Topology). node_in g.nodes (node_id n)) (sym graph) ∙ here)) (spares n);
      numbers = numbers (length items) (subst (λ (k : ℕ). HasNumbers k s.pending.tally) more F.numbers);
      graph = graph ∙ F.graph;
      stands = λ a at S.
          let r = F.stands a at S in (
            change_all at stamp r.0 (aftermath item),
            stands (in_world a r.0) at r.1,
            sym (change_both at stamp r.0 (aftermath item) (flat_map aftermath items)) ∙ ap (λ (l : List Item). change_all at stamp r.0 (flat_map aftermath l)) (sym next) ∙ r.2,
          );
    }
