-- Small changes keep what stands.
use Rattle.std.proofs.Common.{◌≡◌, ℕ, length, refl, ap, ◌∙◌, sym}
use Rattle.std.specs.declared.option.Option.{Option}
use Rattle.std.specs.declared.option.Option.TheVariants.{None, Some}
use Rattle.ng_base.specs.declared.ids.NodeId.{NodeId}
use Rattle.ng_base.specs.declared.ids.Stamp.{Stamp}
use Rattle.ng_base.specs.declared.kind.Kind.{Kind}
use Rattle.ng_machine.specs.declared.body.Body.{Body}
use Rattle.ng_machine.specs.declared.item.Item.{Item}
use Rattle.ng_machine.specs.Change.{Accepts, accept, accept_at, change}
use Rattle.ng_machine.specs.Run.{RunState}
use Rattle.ng_machine.specs.World.{NodeRecord, World, kind_at, node_at}
use Rattle.ng_machine.proofs.Standing.{of_filter}
use Rattle.ng_queue.specs.pending.Holds.{HoldsItems, IsOutIn, dropped_from}
use Rattle.ng_core_state.specs.declared.state.State.{State}
use Rattle.ng_core_state.specs.Stands.{MayLeave, Stands}
use Rattle.ng_core_state.proofs.SentItems.{out_but}
use Rattle.ng_core_state.proofs.StandsAfter.{stands_with}
use Rattle.std.specs.Prelude.{not, ◌==◌}

-- at a node that is there an item is accepted
pub accepts_there : (w : World) (to : NodeId) (node : NodeRecord) (kind : Kind) (body : Body) (tag : Option ℕ) (stamp : Stamp) (at : NodeId) → node_at w to ≡ Some node → kind_at node ≡ kind
    → accept w to kind body tag stamp ≡ change at stamp w (Accepts to body tag)
accepts_there w to node kind body tag stamp at here k =
    ap (λ (z : Kind). accept w to z body tag stamp) (sym k) ∙ ap (λ (o : Option NodeRecord). accept_at w to o body tag stamp) (sym here)

-- and at one that isn't there nothing is
pub accepts_nothing : (w : World) (to : NodeId) (body : Body) (tag : Option ℕ) (stamp : Stamp) (at : NodeId) → node_at w to ≡ None → w ≡ change at stamp w (Accepts to body tag)
accepts_nothing w to body tag stamp at none = ap (λ (o : Option NodeRecord). accept_at w to o body tag stamp) (sym none)

-- a packet is dropped, since its hook is gone
pub stands_dropped : {B : Type 0} (s t : State B) (a : RunState) (p : Item) → Stands s a → IsOutIn a p → MayLeave s.graph p → HoldsItems t.pending (dropped_from a p) → t.graph ≡ s.graph
    → length t.pending.queues.lists ≡ length s.pending.queues.lists → t.told.items ≡ s.told.items → t.ports.items ≡ s.ports.items → Stands t (dropped_from a p)
stands_dropped s t a p S o may H graph lists told ports =
    stands_with s t a (dropped_from a p) S H graph lists told ports (record { nodes = refl; stock = refl; next_link = refl; told = refl; ports = refl })
    (λ q h. S.there q (of_filter (λ (x : Item). not (x.id.0 == p.id.0)) q a.world.pending h).0)
    (λ n node is away. out_but s.graph node a.world.pending a.taken p n S.items.sorted o.0 may away (S.lent n node is away))
