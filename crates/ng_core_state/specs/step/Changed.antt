-- Worlds in which a node is changed.
use Rattle.std.specs.Prelude.{ℕ, ◌+◌, Bool, true, if◌then◌else◌, List, [], ◌∷◌, ◌++◌, is_some, slice_set, Some, None}
use Rattle.ng_base.specs.declared.ids.LinkId.{LinkId}
use Rattle.ng_base.specs.declared.ids.NodeId.{NodeId}
use Rattle.ng_base.specs.declared.kind.Kind.{Kind}
use Rattle.ng_machine.specs.declared.hook.End.{End}
use Rattle.ng_machine.specs.Stock.{without_kind}
use Rattle.ng_machine.specs.World.{NodeRecord, World, blank_node, link_id, linked_hook, new_hook, next_node, with_hook}

-- the node of this number is so
abbrev pub with_node : World → NodeId → NodeRecord → World
with_node w at node = record w { nodes = slice_set w.nodes at.0 (Some node) }

-- the number of a link is used
abbrev pub with_link : World → World
with_link w = record w { next_link = w.next_link + 1 }

-- a node of this kind is made at the other end of a new hook of the node of this record
abbrev pub with_sprout : World → End → NodeRecord → Kind → List ℕ → World
with_sprout w at node kind hook = record w {
  nodes = slice_set w.nodes at.node.0 (Some (with_hook node (new_hook at.hook (link_id w.next_link) (next_node w) hook true)))
      ++ Some (with_hook (blank_node None kind) (new_hook hook (link_id w.next_link) at.node at.hook true)) ∷ [];
  stock = without_kind w.stock kind;
  next_link = w.next_link + 1;
}

-- the node gets the hook of an end
abbrev pub with_end : NodeRecord → End → LinkId → End → Bool → NodeRecord
with_end node at link to joined = with_hook node (new_hook at.hook link to.node to.hook joined)

-- the node is so where the test says so
abbrev pub with_node_if : Bool → World → NodeId → NodeRecord → World
with_node_if test w at node = if test then with_node w at node else w

-- the node has the hook with this link
abbrev pub has_link : NodeRecord → List ℕ → LinkId → Bool
has_link node hook link = is_some (linked_hook node hook link)
