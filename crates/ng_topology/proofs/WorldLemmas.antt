-- What a call does is the change that the machine makes.
use Rattle.std.proofs.Common.{◌≡◌, ℕ, ◌+◌, true, List, [], ◌∷◌, ◌++◌, length, set, is_some, Option, Some, None, ap, ◌∙◌}
use Rattle.std.specs.Option.{option_map}
use Rattle.ng_base.specs.declared.ids.NodeId.{NodeId}
use Rattle.ng_base.specs.declared.kind.Kind.{Kind}
use Rattle.ng_machine.specs.Stock.{without_kind}
use Rattle.ng_machine.specs.World.{World, NodeRecord, node_at, is_there, link_id, node_id, new_hook, with_hook, blank_node}
use Rattle.ng_machine.specs.Change.{set_node}
use Rattle.ng_topology.specs.Topology.{Topology, change_at, change_node}
use Rattle.ng_topology.specs.OfWorld.{IsOfWorld, SetsAre, MakesAre, RetiresAre, LinksAre, LendsAre, GivesAre, SproutsAre}

set_there : (w : World) (at : NodeId) (node now : NodeRecord) → node_at w at ≡ Some node → set_node w at now (is_there w at) ≡ record w { nodes = set w.nodes at.0 (Some now) }
set_there w at node now there = ap (λ (o : Option NodeRecord). set_node w at now (is_some o)) there

nodes_set : (t : Topology) (w : World) (at : NodeId) (node : NodeRecord) (f : NodeRecord → NodeRecord) → IsOfWorld t w → node_at w at ≡ Some node → change_at t.nodes at f ≡ set w.nodes at.0 (Some (f node))
nodes_set t w at node f is there =
    ap (λ (nodes : List (Option NodeRecord)). change_at nodes at f) is.nodes
    ∙ ap (λ (o : Option NodeRecord). set w.nodes at.0 (option_map f o)) there

pub sets_are : SetsAre
sets_are t w at stamp node f is there = rw (set_there w at node (f node) there) (record { nodes = nodes_set t w at node f is there; stock = is.stock; next_link = is.next_link })

pub makes_are : MakesAre
makes_are t w at stamp kind node is = record {
  nodes = ap (λ (nodes : List (Option NodeRecord)). nodes ++ Some node ∷ []) is.nodes;
  stock = ap (λ (kinds : List Kind). without_kind kinds kind) is.stock;
  next_link = is.next_link;
}

pub retires_are : RetiresAre
retires_are t w at stamp is = record { nodes = ap (λ (nodes : List (Option NodeRecord)). set nodes at.0 None) is.nodes; stock = is.stock; next_link = is.next_link }

pub links_are : LinksAre
links_are t w at stamp is = record { nodes = is.nodes; stock = is.stock; next_link = ap (λ (n : ℕ). n + 1) is.next_link }

pub lends_are : LendsAre
lends_are t w at is = record { nodes = is.nodes; stock = is.stock; next_link = is.next_link }

pub gives_are : GivesAre
gives_are t w at stamp node state is there =
    let now : NodeRecord = record node { kept = state.kept } in
    rw (set_there w at node now there) (record { nodes = nodes_set t w at node (λ r. record r { kept = state.kept }) is there; stock = is.stock; next_link = is.next_link })

pub sprouts_are : SproutsAre
sprouts_are t w item node kind ours theirs is there =
    let now : NodeRecord = with_hook node (new_hook ours (link_id w.next_link) (node_id (length w.nodes)) theirs true) in
    let made : NodeRecord = with_hook (blank_node None kind) (new_hook theirs (link_id w.next_link) item.to ours true) in
    let one : Topology = change_node t item.to (λ r. with_hook r (new_hook ours (link_id t.next_link) (node_id (length t.nodes)) theirs true)) in
    rw (set_there w item.to node now there)
    (record {
      nodes =
          ap (λ (nodes : List (Option NodeRecord)). nodes ++ Some (with_hook (blank_node None kind) (new_hook theirs (link_id t.next_link) item.to ours true)) ∷ []) (nodes_set t w item.to node (λ r. with_hook r (new_hook ours (link_id t.next_link) (node_id (length t.nodes)) theirs true)) is there)
          ∙ ap (λ (n : ℕ). set w.nodes item.to.0 (Some (with_hook node (new_hook ours (link_id n) (node_id (length t.nodes)) theirs true))) ++ Some (with_hook (blank_node None kind) (new_hook theirs (link_id n) item.to ours true)) ∷ []) is.next_link
          ∙ ap (λ (nodes : List (Option NodeRecord)). set w.nodes item.to.0 (Some (with_hook node (new_hook ours (link_id w.next_link) (node_id (length nodes)) theirs true))) ++ Some made ∷ []) is.nodes;
      stock = ap (λ (kinds : List Kind). without_kind kinds kind) is.stock;
      next_link = ap (λ (n : ℕ). n + 1) is.next_link;
    })
