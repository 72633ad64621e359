-- A walk from node to node by an address: from its head along joined hooks, each to a peer that is there (netgraph(4),
-- "Addressing").
use Rattle.std.specs.Prelude.{Bool, true, false, if◌then◌else◌, ℕ, List, [], ◌∷◌, Option, Some, None}
use Rattle.ng_base.specs.declared.ids.NodeId.{NodeId}
use Rattle.ng_path.specs.declared.path.Head.{Head}
use Rattle.ng_path.specs.declared.path.Head.TheVariants.{Local, Named, Id}
use Rattle.ng_path.specs.Address.{Address}
use Rattle.ng_machine.specs.declared.hook.Hook.{Hook}
use Rattle.ng_machine.specs.World.{World, node_at, is_there, node_named, hook_at}

abbrev pub if_there : World → NodeId → Option NodeId
if_there w id = if is_there w id then Some id else None

abbrev pub head_at : World → NodeId → Head → Option NodeId
head_at w from Local = if_there w from
head_at w from (Named name) = node_named w name
head_at w from (Id id) = if_there w id

abbrev pub peer_if : World → NodeId → Bool → Option NodeId
peer_if w peer true = if_there w peer
peer_if w peer false = None

abbrev pub peer_of : World → Option Hook → Option NodeId
peer_of w None = None
peer_of w (Some hook) = peer_if w hook.peer.node hook.joined

abbrev pub follow : World → Option NodeId → List (List ℕ) → Option NodeId
follow w None hooks = None
follow w (Some id) [] = Some id
follow w (Some id) (hook ∷ hooks) = follow w (peer_of w (hook_at (node_at w id) hook)) hooks

abbrev pub walk : World → NodeId → Address → Option NodeId
walk w from address = follow w (head_at w from address.head) address.hooks
