-- A node goes: what it leaves behind, and what becomes of what waited for it.
use Rattle.std.specs.Prelude.{ℕ, Bool, true, false, not, ◌&&◌, ◌||◌, ◌==◌, if◌then◌else◌, List, [], ◌∷◌, ◌++◌, filter, flat_map, Option, Some, None}
use Rattle.ng_base.specs.declared.errno.Errno.{Errno}
use Rattle.ng_base.specs.declared.ids.NodeId.{NodeId}
use Rattle.ng_machine.specs.declared.body.Body.{Body}
use Rattle.ng_machine.specs.declared.body.Body.TheVariants.{Msg, Join2, Undo, Leave, Rebind}
use Rattle.ng_machine.specs.declared.hook.Hook.{Hook}
use Rattle.ng_machine.specs.declared.item.Item.{Item}
use Rattle.ng_machine.specs.declared.told.Told.TheVariants.{Refused}
use Rattle.ng_machine.specs.Errors.{enxio}
use Rattle.ng_machine.specs.declared.farewell.Farewell.{Farewell}
use Rattle.ng_machine.specs.declared.farewell.Farewell.TheVariants.{Plain, Stay, Bypass}
use Rattle.ng_machine.specs.Rules.{farewell_of, is_lasting}
use Rattle.ng_machine.specs.World.{World, NodeRecord, is_there, is_named, hook_of, kind_at, without_hooks, link_id}
use Rattle.ng_machine.specs.Change.{Change, Sets, Retires, Accepts, Notes, Tells, Links, items_of}

-- an error is told for a tag; where no command waits it is told to nobody
abbrev pub refuse : Option ℕ → Errno → List Change
refuse None errno = []
refuse (Some command) errno = Notes (Tells (Refused command errno [])) ∷ []

-- What follows an item that is dropped with its node: of a message the error ENXIO is told, and of the second step of a
-- connect the first end is taken away again. All else goes without a word.
abbrev pub aftermath_of : Item → Body → List Change
aftermath_of item (Msg msg) = refuse item.tag enxio
aftermath_of item (Join2 hook link peer peer_hook) = Accepts peer (Undo peer_hook link enxio) item.tag ∷ []
aftermath_of item _ = []

abbrev pub aftermath : Item → List Change
aftermath item = aftermath_of item item.body

-- the node goes with what waits for it, in order, and then comes what follows of that
abbrev pub retiring : World → Item → List Change
retiring w item = Retires ∷ flat_map aftermath (items_of w item.to)

-- each peer that is another node is to take its end away; an end at the node itself goes with the node
abbrev pub leave_step_unless : Bool → Hook → List Change
leave_step_unless true hook = []
leave_step_unless false hook = Accepts hook.peer.node (Leave hook.peer.hook hook.link) None ∷ []

abbrev pub leave_step_to : NodeId → Hook → List Change
leave_step_to at hook = leave_step_unless (hook.peer.node.0 == at.0) hook

abbrev pub leave_steps : NodeId → List Hook → List Change
leave_steps at hooks = flat_map (leave_step_to at) hooks

-- The farewell of ng_tee(4): two hooks' peers are joined to each other by a fresh link, where both are other nodes that
-- are there.

-- the hook, where it is joined to another node that is there
abbrev pub is_outward : World → NodeId → Hook → Bool
is_outward w at hook = hook.joined && (not (hook.peer.node.0 == at.0) && is_there w hook.peer.node)

abbrev pub outward : World → NodeId → Option Hook → Option Hook
outward w at None = None
outward w at (Some hook) = if is_outward w at hook then Some hook else None

abbrev pub hooks_but : List ℕ → List ℕ → List Hook → List Hook
hooks_but a b hooks = filter (λ h. not (is_named a h || is_named b h)) hooks

abbrev pub rebind_to : World → Item → Hook → Hook → Change
rebind_to w item from to = Accepts from.peer.node (Rebind from.peer.hook from.link (link_id w.next_link) to.peer.node to.peer.hook) item.tag

abbrev pub bypass : World → Item → NodeRecord → List ℕ → List ℕ → Option Hook → Option Hook → List Change
bypass w item node a b (Some x) (Some y) = Notes Links ∷ rebind_to w item x y ∷ rebind_to w item y x ∷ leave_steps item.to (hooks_but a b node.hooks)
bypass w item node a b None y = leave_steps item.to node.hooks
bypass w item node a b (Some x) None = leave_steps item.to node.hooks

abbrev pub farewell : World → Item → NodeRecord → Farewell → List Change
farewell w item node Stay = Sets (without_hooks node) ∷ leave_steps item.to node.hooks
farewell w item node Plain = leave_steps item.to node.hooks ++ retiring w item
farewell w item node (Bypass a b) = bypass w item node a b (outward w item.to (hook_of node a)) (outward w item.to (hook_of node b)) ++ retiring w item

-- shutdown: netgraph(4), NGM_SHUTDOWN
abbrev pub shut_down : World → Item → NodeRecord → List Change
shut_down w item node = farewell w item node (farewell_of (kind_at node))

-- A node whose last hook is taken away by rmhook or by its peer's going, and that doesn't stay without hooks, goes in the
-- same step (netgraph(4): most types remove themselves with their last hook).

abbrev pub has_hooks : List Hook → Bool
has_hooks [] = false
has_hooks (hook ∷ hooks) = true

abbrev pub stays : NodeRecord → Bool
stays node = has_hooks node.hooks || is_lasting node.kept

abbrev pub cut_to_if : World → Item → NodeRecord → Bool → List Change
cut_to_if w item node true = Sets node ∷ []
cut_to_if w item node false = retiring w item

-- the node has this row once a hook is cut
abbrev pub cut_to : World → Item → NodeRecord → List Change
cut_to w item node = cut_to_if w item node (stays node)
