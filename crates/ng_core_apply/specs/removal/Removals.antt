-- The changes of what takes hooks and nodes away, and what comes out of it.
use Rattle.std.specs.Prelude.{[], ◌∷◌, ◌++◌, ℕ, List, Option, Some, None}
use Rattle.ng_base.specs.declared.ids.LinkId.{LinkId}
use Rattle.ng_machine.specs.declared.item.Item.{Item}
use Rattle.ng_machine.specs.declared.body.Body.TheVariants.{Leave}
use Rattle.ng_machine.specs.declared.farewell.Farewell.{Farewell}
use Rattle.ng_machine.specs.declared.hook.Hook.{Hook}
use Rattle.ng_machine.specs.Change.{Accepts, Links, Notes, change, change_all}
use Rattle.ng_machine.specs.Connect.{remove_peer_hook, rmhook}
use Rattle.ng_machine.specs.Retire.{bypass, farewell, leave_steps, rebind_to, retiring, shut_down}
use Rattle.ng_machine.specs.Run.{RunState}
use Rattle.ng_machine.specs.State.{State as NodeState}
use Rattle.ng_machine.specs.World.{NodeRecord, World, hook_of, linked_hook, node_at}
use Rattle.ng_queue.specs.pending.Holds.{NoneOut, done_from}
use Rattle.ng_core_state.specs.step.Steps.{Changes, IsStep, world_at}
use Rattle.ng_core_state.specs.step.Applied.{ComesOut, applied_from}
use Rattle.ng_core_state.specs.declared.state.State.{State}
use Rattle.ng_core_state.specs.Stands.{Stands}

-- a hook goes, since its peer went
abbrev pub leaves : Item → List ℕ → LinkId → Changes
leaves item hook link a node = remove_peer_hook (world_at a item) item node (linked_hook node hook link)

-- the order to take a hook away
abbrev pub removes_hook : Item → List ℕ → Changes
removes_hook item hook a node = rmhook (world_at a item) item node (hook_of node hook)

-- a node goes, and the peers of its hooks are to take their ends away
abbrev pub goes : Item → Changes
goes item a node = leave_steps item.to node.hooks ++ retiring (world_at a item) item

-- the order to shut down
abbrev pub shuts_down : Item → Changes
shuts_down item a node = shut_down (world_at a item) item node

-- the node does this at a shutdown
abbrev pub bids_farewell : Item → Farewell → Changes
bids_farewell item how a node = farewell (world_at a item) item node how

-- nothing of the item's node is taken but the item
abbrev pub IsAlone : RunState → Item → Type 0
IsAlone a item = NoneOut (done_from a item) item.to.0

-- there is a run in which the step is made, by an item that is alone at its node
abbrev pub MayRemove : {B : Type 0} → State B → Item → Changes → Type 0
MayRemove s item changes = (a : RunState) × ((node : NodeRecord) × IsStep s item a node (changes a node) × IsAlone a item)

-- what is kept stands for each such run after the item is applied, and the box of a node that goes comes out
abbrev pub Removes : {B : Type 0} → (B → NodeState) → State B → State B → Item → Changes → Option B → Type 0
Removes state old new item changes out =
    (a : RunState) (node : NodeRecord) → IsStep old item a node (changes a node) → IsAlone a item
    → Stands new (applied_from a item) × ComesOut state (Some node) (node_at (applied_from a item).world item.to) out

-- the world once the item is done and a hook's peer is to take its end away
abbrev pub world_asked : RunState → Item → Hook → World
world_asked a item hook = change item.to item.stamp (world_at a item) (Accepts hook.peer.node (Leave hook.peer.hook hook.link) None)

-- a node goes, and the peers of two of its hooks are joined to each other
abbrev pub bypasses : Item → List ℕ → List ℕ → Hook → Hook → Changes
bypasses item one other first second a node = bypass (world_at a item) item node one other (Some first) (Some second) ++ retiring (world_at a item) item

-- the world in which they are joined
abbrev pub world_bypassed : Item → Hook → Hook → World → World
world_bypassed item first second w = change_all item.to item.stamp w (Notes Links ∷ rebind_to w item first second ∷ rebind_to w item second first ∷ [])
