-- A taken item at its node, and what comes of applying it.
use Rattle.std.specs.Prelude.{◌≡◌, ℕ, true, List, Option, Some, None}
use Rattle.ng_machine.specs.declared.item.Item.{Item}
use Rattle.ng_machine.specs.Desk.{Within, job_at}
use Rattle.ng_machine.specs.LowRun.{IsLow}
use Rattle.ng_machine.specs.Order.{Order, Shutdown, Rmhook}
use Rattle.ng_machine.specs.Run.{RunState}
use Rattle.ng_machine.specs.State.{State as NodeState}
use Rattle.ng_machine.specs.World.{NodeRecord, node_at}
use Rattle.ng_core_apply.specs.removal.Removals.{IsAlone}
use Rattle.ng_core_state.specs.step.Applied.{ComesOut, IsAtNode, applied_from}
use Rattle.ng_core_state.specs.step.Boxes.{IsAloneIn}
use Rattle.ng_machine.specs.story.Work.{IsDone}
use Rattle.ng_core_state.specs.declared.handed.Done.{Done}
use Rattle.ng_core_state.specs.declared.state.State.{State}
use Rattle.ng_core_state.specs.Handed.{handed_with, item_done}
use Rattle.ng_core_state.specs.Stands.{Stands}

-- what is kept stands for the run, in which the item is taken at its node: no other writer of the node is taken, and beside a
-- writer nothing is
pub record IsAtHand {B : Type 0} (s : State B) (item : Item) (a : RunState) (node : NodeRecord) : Type 0 where
  pub stands : Stands s a
  pub at : IsAtNode a item node
  pub low : IsLow a.world
  pub only : IsAloneIn a item
  pub alone : item.writer ≡ true → IsAlone a item

-- the item needs no work outside
abbrev pub IsWithin : {B : Type 0} → State B → Item → RunState → NodeRecord → Type 0
IsWithin s item a node = IsAtHand s item a node × (job_at item (Some node) ≡ Within item)

-- what is handed in is what comes of the item's job
abbrev pub IsHandedIn : {B : Type 0} → State B → (B → NodeState) → Done B → RunState → NodeRecord → Type 0
IsHandedIn s state done a node = IsAtHand s (item_done done) a node × IsDone (job_at (item_done done) (Some node)) (handed_with state done)

-- what is kept stands for the run after the item is applied, and the box of a node that goes comes out, and nothing else
abbrev pub Applies : {B : Type 0} → (B → NodeState) → State B → Item → RunState → NodeRecord → Option B → Type 0
Applies state new item a node out = Stands new (applied_from a item) × ComesOut state (Some node) (node_at (applied_from a item).world item.to) out

-- the order by which a hook goes, or a node where no hook is named
abbrev pub going_order : Option (List ℕ) → Order
going_order None = Shutdown
going_order (Some hook) = Rmhook hook
