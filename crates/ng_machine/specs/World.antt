-- The world: the whole state of the machine that applies one item after another.
use Rattle.std.specs.Prelude.{ℕ, ◌+◌, ◌-◌, Bool, true, false, not, ◌==◌, ◌&&◌, if◌then◌else◌, List, [], ◌∷◌, ◌++◌, length, map, filter, find, is_some, slice_index_or, Option, Some, None}
use Rattle.std.specs.Str.{bytes_eq}
use Rattle.ng_base.specs.declared.cause.Cause.{Cause}
use Rattle.ng_base.specs.declared.ids.ItemId.{ItemId}
use Rattle.ng_base.specs.declared.ids.LinkId.{LinkId}
use Rattle.ng_base.specs.declared.ids.NodeId.{NodeId}
use Rattle.ng_base.specs.declared.ids.Stamp.{Stamp}
use Rattle.ng_base.specs.declared.kind.Kind.{Kind}
use Rattle.ng_base.specs.declared.kind.Kind.TheVariants.{Socket, Ether}
use Rattle.ng_machine.specs.declared.hook.Hook.{Hook}
use Rattle.ng_machine.specs.declared.item.Item.{Item}
use Rattle.ng_machine.specs.declared.lost.Lost.{Lost}
use Rattle.ng_machine.specs.declared.told.Told.{Told}
use Rattle.ng_machine.specs.State.{State, KindState, blank_kept, kind_of_kept, kept_with_hook, kept_without_hook, kept_without_hooks}
use Rattle.ng_machine.specs.Stock.{without_kind, without_kinds}

-- a node; its state is the names of its hooks and its part
pub record NodeRecord : Type 0 where
  pub name : Option (List ℕ)
  pub kept : KindState
  pub hooks : List Hook

-- a port: the packets that left by its wire, with their times; how many were fed; how many went to the host
pub record Port : Type 0 where
  pub leaving : List (Stamp × List ℕ)
  pub fed : ℕ
  pub up : ℕ

pub record World : Type 0 where
  pub nodes : List (Option NodeRecord)  -- by their numbers; None where a number has no node, or none any more
  pub stock : List Kind  -- the kinds of the blank nodes that are left
  pub pending : List Item  -- in order of their numbers
  pub told : List Told
  pub ports : List Port  -- in their order; the port's node has its place plus 2 as its number
  pub done : List ItemId  -- items that were applied and not dropped
  pub dropped : List (ItemId × Cause)
  pub lost : Lost
  pub refused : ℕ  -- packets that a node refused
  pub spool : ℕ  -- bytes that left, with 16 for each packet
  pub fed : ℕ  -- inputs fed
  pub applies : ℕ  -- Apply events, those of dropped packets too
  pub next_item : ℕ
  pub next_link : ℕ
  pub clock : Stamp  -- the greatest time of the packets fed
  pub command : ℕ  -- the number of the last command

abbrev pub node_id : ℕ → NodeId
node_id n = record { 0 = n }

abbrev pub link_id : ℕ → LinkId
link_id n = record { 0 = n }

abbrev pub item_id : ℕ → ItemId
item_id n = record { 0 = n }

-- Nodes

abbrev pub state_of : NodeRecord → State
state_of node = record { hooks = map (λ h. h.name) node.hooks; kept = node.kept }

abbrev pub kind_at : NodeRecord → Kind
kind_at node = kind_of_kept node.kept

abbrev pub node_in : List (Option NodeRecord) → NodeId → Option NodeRecord
node_in nodes id = slice_index_or nodes id.0 None

abbrev pub node_at : World → NodeId → Option NodeRecord
node_at w id = node_in w.nodes id

abbrev pub is_there : World → NodeId → Bool
is_there w id = is_some (node_at w id)

-- the number of the next node: no number is used twice
abbrev pub next_node : World → NodeId
next_node w = node_id (length w.nodes)

-- Hooks

abbrev pub is_named : List ℕ → Hook → Bool
is_named name hook = bytes_eq hook.name name

abbrev pub hook_of : NodeRecord → List ℕ → Option Hook
hook_of node name = find (is_named name) node.hooks

abbrev pub has_hook : NodeRecord → List ℕ → Bool
has_hook node name = is_some (hook_of node name)

abbrev pub hook_at : Option NodeRecord → List ℕ → Option Hook
hook_at None name = None
hook_at (Some node) name = hook_of node name

-- the hook of that name, where it has this link
abbrev pub linked_hook : NodeRecord → List ℕ → LinkId → Option Hook
linked_hook node name link = find (λ h. is_named name h && h.link.0 == link.0) node.hooks

abbrev pub new_hook : List ℕ → LinkId → NodeId → List ℕ → Bool → Hook
new_hook name link peer peer_hook joined = record { name = name; link = link; peer = record { node = peer; hook = peer_hook }; joined = joined }

abbrev pub hook_names : NodeRecord → List (List ℕ)
hook_names node = map (λ h. h.name) node.hooks

-- a row with one hook more at the end, without one, and without any; the part follows
abbrev pub with_hook : NodeRecord → Hook → NodeRecord
with_hook node hook = record node { hooks = node.hooks ++ hook ∷ []; kept = kept_with_hook node.kept hook.name }

abbrev pub without_hook : NodeRecord → List ℕ → NodeRecord
without_hook node name = record node { hooks = filter (λ h. not (is_named name h)) node.hooks; kept = kept_without_hook node.kept name }

abbrev pub without_hooks : NodeRecord → NodeRecord
without_hooks node = record node { hooks = []; kept = kept_without_hooks node.kept (hook_names node) }

-- a row whose hook of that name is changed
abbrev pub change_hook : List ℕ → (Hook → Hook) → Hook → Hook
change_hook name change hook = if is_named name hook then change hook else hook

abbrev pub with_changed_hook : NodeRecord → List ℕ → (Hook → Hook) → NodeRecord
with_changed_hook node name change = record node { hooks = map (change_hook name change) node.hooks }

abbrev pub settle_hook : Hook → Hook
settle_hook hook = record hook { joined = true }

abbrev pub bind_to : LinkId → NodeId → List ℕ → Hook → Hook
bind_to link peer peer_hook hook = record hook { link = link; peer = record { node = peer; hook = peer_hook } }

-- Names of nodes

abbrev pub same_name : List ℕ → Option (List ℕ) → Bool
same_name name None = false
same_name name (Some own) = bytes_eq own name

abbrev pub has_name : List ℕ → Option NodeRecord → Bool
has_name name None = false
has_name name (Some node) = same_name name node.name

abbrev pub find_named : ℕ → List ℕ → List (Option NodeRecord) → Option NodeId
find_named n name [] = None
find_named n name (node ∷ nodes) = if has_name name node then Some (node_id n) else find_named (n + 1) name nodes

-- the node of that name
abbrev pub node_named : World → List ℕ → Option NodeId
node_named w name = find_named 0 name w.nodes

-- The world before any event

-- the node that commands come from
abbrev pub own_node : NodeId
own_node = node_id 1

-- the node of a port, and the port of a node
abbrev pub port_node : ℕ → NodeId
port_node port = node_id (port + 2)

abbrev pub port_of : NodeId → ℕ
port_of id = id.0 - 2

abbrev pub blank_node : Option (List ℕ) → Kind → NodeRecord
blank_node name kind = record { name = name; kept = blank_kept kind; hooks = [] }

abbrev pub blank_port : Port
blank_port = record { leaving = []; fed = 0; up = 0 }

-- node 1 is a socket of the own name, and then comes an ether for each port, of the port's name; they are taken out of
-- the blank nodes that were handed in
abbrev pub start_of : List ℕ → List (List ℕ) → List Kind → World
start_of own ports stock = record {
  nodes = None ∷ Some (blank_node (Some own) Socket) ∷ map (λ name. Some (blank_node (Some name) Ether)) ports;
  stock = without_kinds (without_kind stock Socket) Ether (length ports);
  pending = [];
  told = [];
  ports = map (λ name. blank_port) ports;
  done = [];
  dropped = [];
  lost = record { no_peer = 0; node_gone = 0; full = 0; spool = 0 };
  refused = 0;
  spool = 0;
  fed = 0;
  applies = 0;
  next_item = 1;
  next_link = 1;
  clock = record { 0 = 0 };
  command = 0;
}
