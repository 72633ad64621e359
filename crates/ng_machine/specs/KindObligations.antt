-- What the laws need of the types of nodes; all else that they use is said by the kinds of change.
use Rattle.std.specs.Prelude.{◌≡◌, ℕ, List, false}
use Rattle.ng_machine.specs.Counters.{Count}
use Rattle.ng_machine.specs.Case.{absorb, reply_to}
use Rattle.ng_machine.specs.Effect.{is_fine}
use Rattle.ng_machine.specs.declared.body.Body.{Body}
use Rattle.ng_machine.specs.declared.item.Item.{Item}
use Rattle.ng_machine.specs.Words.{Every}
use Rattle.ng_machine.specs.Body.{is_writer}
use Rattle.ng_machine.specs.State.{State, way_of}
use Rattle.ng_machine.specs.World.{World, NodeRecord, kind_at, state_of}
use Rattle.ng_machine.specs.Change.{Change, Sets, Makes, Retires, Accepts, Posts, Notes}
use Rattle.ng_machine.specs.Effect.{effect_at}

-- a row that has the name, the hooks, the kind and the plan of another
pub record IsPreserved (node now : NodeRecord) : Type 0 where
  pub name : now.name ≡ node.name
  pub hooks : now.hooks ≡ node.hooks
  pub kind : kind_at now ≡ kind_at node
  pub way : way_of (state_of now) ≡ way_of (state_of node)

-- a change that makes and retires no node, and spares its own
abbrev pub Preserves : NodeRecord → Change → Type 0
Preserves node (Sets now) = IsPreserved node now
Preserves node (Makes kind made) = ⊥
Preserves node Retires = ⊥
Preserves node (Accepts to body tag) = Unit {0}
Preserves node (Posts hook packet) = Unit {0}
Preserves node (Notes x) = Unit {0}

-- a node's kind never changes
abbrev pub KeepsKind : NodeRecord → Change → Type 0
KeepsKind node (Sets now) = kind_at now ≡ kind_at node
KeepsKind node (Makes kind made) = Unit {0}
KeepsKind node Retires = Unit {0}
KeepsKind node (Accepts to body tag) = Unit {0}
KeepsKind node (Posts hook packet) = Unit {0}
KeepsKind node (Notes x) = Unit {0}

-- a reader makes and retires no node, and leaves its own node's name, hooks and plan
abbrev pub ReadersPreserve : Type 0
ReadersPreserve = (w : World) (item : Item) (node : NodeRecord) (body : Body) → is_writer (kind_at node) body ≡ false → Every (Preserves node) (effect_at w item node body)

-- no item changes its node's kind
abbrev pub KindsStay : Type 0
KindsStay = (w : World) (item : Item) (node : NodeRecord) (body : Body) → Every (KeepsKind node) (effect_at w item node body)

-- what is counted leaves what a plan holds
abbrev pub AbsorbingPreserves : Type 0
AbsorbingPreserves = (state : State) (counts : List Count) → way_of (record state { kept = absorb state.kept counts }) ≡ way_of state

-- a refused message changes nothing
abbrev pub RefusedLeaves : Type 0
RefusedLeaves = (state : State) (number : ℕ) (args : List ℕ) → is_fine (reply_to state number args).outcome.errno ≡ false → (reply_to state number args).after ≡ state.kept
