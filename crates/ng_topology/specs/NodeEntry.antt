-- A node as the graph holds it: its record, and whether its box is at home. While the box is lent the record has what the box
-- kept when it went.
use Rattle.std.specs.Prelude.{◌≡◌, ℕ, Bool, true, false, List, [], map, IfSome, Option, Some, None}
use Rattle.ng_base.specs.declared.kind.Kind.{Kind}
use Rattle.ng_machine.specs.declared.hook.Hook.{Hook}
use Rattle.ng_machine.specs.declared.plan.Plan.{Plan}
use Rattle.ng_machine.specs.Rules.{accepts_hook}
use Rattle.ng_machine.specs.State.{State, kept_without_hooks, kind_of, way_of}
use Rattle.ng_machine.specs.World.{NodeRecord, kind_at, has_hook}

pub record NodeEntry : Type 0 where
  pub node : NodeRecord
  pub home : Bool

-- the state of the box at home, or that which it had
abbrev pub state_in : {B : Type 0} → (B → State) → Option B → B → State
state_in state None was = state was
state_in state (Some box) was = state box

abbrev pub entry_as : Option (List ℕ) → State → List Hook → Bool → NodeEntry
entry_as name state hooks home = record { node = record { name = name; kept = state.kept; hooks = hooks }; home = home }

-- what the fields of an entry say: the kind and the names of the hooks are those of the state, and a plan that was made is the
-- state's. While the box is lent there is the plan, if the state has one
pub record IsConsistent (its_kind : Kind) (state : State) (its_hooks : List Hook) (home : Bool) (plan : Option Plan) : Type 0 where
  pub kind : kind_of state ≡ its_kind
  pub hooks : map (λ h. h.name) its_hooks ≡ state.hooks
  pub planned : IfSome plan (λ p. way_of state ≡ Some p)
  pub lent : home ≡ false → plan ≡ way_of state

-- a box of which all hooks are cut
abbrev pub without_all : State → State
without_all state = record { hooks = []; kept = kept_without_hooks state.kept state.hooks }

-- the node is another; the box stays where it is
abbrev pub with_node : NodeEntry → NodeRecord → NodeEntry
with_node entry node = record entry { node = node }

-- a node may get a hook of this name
pub record AcceptsHook (node : NodeRecord) (hook : List ℕ) : Type 0 where
  pub allowed : accepts_hook (kind_at node) hook ≡ true
  pub fresh : has_hook node hook ≡ false
