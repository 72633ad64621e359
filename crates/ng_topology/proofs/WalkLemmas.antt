-- A walk sees the nodes alone.
use Rattle.std.proofs.Common.{◌≡◌, ℕ, Bool, true, false, cond, List, [], ◌∷◌, is_some, Option, Some, None, refl, ap, ◌∙◌}
use Rattle.ng_base.specs.declared.ids.NodeId.{NodeId}
use Rattle.ng_path.specs.declared.path.Head.{Head}
use Rattle.ng_path.specs.declared.path.Head.TheVariants.{Local, Named, Id}
use Rattle.ng_machine.specs.declared.hook.Hook.{Hook}
use Rattle.ng_path.specs.Address.{Address}
use Rattle.ng_machine.specs.Walk.{if_there, head_at, peer_if, peer_of, follow, walk}
use Rattle.ng_machine.specs.World.{World, NodeRecord, node_in, hook_at, find_named}

module _ (v w : World) (same : v.nodes ≡ w.nodes) where
  there_same : (id : NodeId) → if_there v id ≡ if_there w id
  there_same id = ap (λ (nodes : List (Option NodeRecord)). cond (is_some (node_in nodes id)) (Some id) None) same

  head_same : (from : NodeId) (head : Head) → head_at v from head ≡ head_at w from head
  head_same from Local = there_same from
  head_same from (Named name) = ap (find_named 0 name) same
  head_same from (Id id) = there_same id

  peer_if_same : (id : NodeId) (joined : Bool) → peer_if v id joined ≡ peer_if w id joined
  peer_if_same id true = there_same id
  peer_if_same id false = refl

  peer_same : (hook : Option Hook) → peer_of v hook ≡ peer_of w hook
  peer_same None = refl
  peer_same (Some hook) = peer_if_same hook.peer.node hook.joined

  follow_same : (hooks : List (List ℕ)) (at : Option NodeId) → follow v at hooks ≡ follow w at hooks
  follow_same [] None = refl
  follow_same [] (Some id) = refl
  follow_same (hook ∷ hooks) None = refl
  follow_same (hook ∷ hooks) (Some id) =
      ap (λ (nodes : List (Option NodeRecord)). follow v (peer_of v (hook_at (node_in nodes id) hook)) hooks) same
      ∙ ap (λ (at : Option NodeId). follow v at hooks) (peer_same (hook_at (node_in w.nodes id) hook))
      ∙ follow_same hooks (peer_of w (hook_at (node_in w.nodes id) hook))

  pub walk_same : (from : NodeId) (address : Address) → walk v from address ≡ walk w from address
  walk_same from address =
      ap (λ (at : Option NodeId). follow v at address.hooks) (head_same from address.head)
      ∙ follow_same address.hooks (head_at w from address.head)

-- from nowhere it leads nowhere
pub follow_none : (w : World) (hooks : List (List ℕ)) → follow w None hooks ≡ None
follow_none w [] = refl
follow_none w (hook ∷ hooks) = refl
