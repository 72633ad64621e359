-- A step: a taken item at its node is done, and makes its changes.
use Rattle.std.specs.Prelude.{◌≡◌, true, false, List, Some}
use Rattle.ng_machine.specs.declared.item.Item.{Item}
use Rattle.ng_machine.specs.Change.{Change}
use Rattle.ng_machine.specs.Effect.{effect_at, is_hook_gone}
use Rattle.ng_machine.specs.LowRun.{IsLow}
use Rattle.ng_machine.specs.Run.{RunState}
use Rattle.ng_machine.specs.World.{NodeRecord, World}
use Rattle.ng_queue.specs.pending.Holds.{done_from}
use Rattle.ng_core_state.specs.step.Applied.{IsAtNode, applied_from}
use Rattle.ng_core_state.specs.declared.state.State.{State}
use Rattle.ng_core_state.specs.Stands.{Stands}

-- the world of the run once the item is done, and before it makes its changes
abbrev pub world_at : RunState → Item → World
world_at a item = (done_from a item).world

-- what is kept stands for the run, in which the item is taken at its node, is not dropped, and makes these changes
pub record IsStep {B : Type 0} (s : State B) (item : Item) (a : RunState) (node : NodeRecord) (changes : List Change) : Type 0 where
  pub stands : Stands s a
  pub at : IsAtNode a item node
  pub low : IsLow a.world
  pub stays : is_hook_gone (Some node) item.body ≡ false
  pub effect : effect_at (world_at a item) item node item.body ≡ changes

-- or it is dropped, since its hook is gone
pub record IsGone {B : Type 0} (s : State B) (item : Item) (a : RunState) (node : NodeRecord) : Type 0 where
  pub stands : Stands s a
  pub at : IsAtNode a item node
  pub low : IsLow a.world
  pub gone : is_hook_gone (Some node) item.body ≡ true

-- the changes of a step, by its run and its node
abbrev pub Changes : Type 0
Changes = RunState → NodeRecord → List Change

-- there is a run in which the step is made
abbrev pub MayStep : {B : Type 0} → State B → Item → Changes → Type 0
MayStep s item changes = (a : RunState) × ((node : NodeRecord) × IsStep s item a node (changes a node))

-- what is kept stands for each such run after the item is applied
abbrev pub Steps : {B : Type 0} → State B → State B → Item → Changes → Type 0
Steps old new item changes = (a : RunState) (node : NodeRecord) → IsStep old item a node (changes a node) → Stands new (applied_from a item)

-- what is kept stands for the runs that it stood for
abbrev pub StandsOn : {B : Type 0} → State B → State B → Type 0
StandsOn old new = (a : RunState) → Stands old a → Stands new a
