-- Time, and what is to be learned, wait at bridges alone: what each change of an item brings.
use Rattle.std.proofs.Common.{◌≡◌, ◌⊎◌, ℕ, true, false, List, inl, inr, refl, sym, ap, ◌∙◌, true≢false, is_some}
use Rattle.std.specs.declared.option.Option.{Option}
use Rattle.std.specs.declared.option.Option.TheVariants.{None, Some}
use Rattle.ng_base.specs.declared.ids.LinkId.{LinkId}
use Rattle.ng_base.specs.declared.ids.NodeId.{NodeId}
use Rattle.ng_base.specs.declared.kind.Kind.TheVariants.{Bridge as BridgeKind}
use Rattle.ng_machine.specs.declared.body.Body.{Body}
use Rattle.ng_machine.specs.declared.body.Body.TheVariants.{Frame, Msg, Join2, Join3, Undo, Leave, Rebind, Tick, Learn}
use Rattle.ng_machine.specs.declared.body.Door.{Door}
use Rattle.ng_machine.specs.declared.body.Door.TheVariants.{Hook as ByHook}
use Rattle.ng_machine.specs.declared.item.Item.{Item}
use Rattle.ng_machine.specs.Words.{Every}
use Rattle.ng_machine.specs.Case.{outcome_of}
use Rattle.ng_machine.specs.World.{World, NodeRecord, state_of, kind_at, hook_names}
use Rattle.ng_machine.specs.Change.{Change, Sets, Makes, Retires, Accepts, Posts, Notes}
use Rattle.ng_machine.specs.Effect.{learn, effect_at}
use Rattle.ng_machine.proofs.Costing.{effect_occurs}
use Rattle.ng_machine.proofs.Every.{every_imply}
use Rattle.ng_machine.proofs.Occurs as occurs
use Rattle.ng_machine.proofs.Teaching.{frames_teach}

-- the body may be brought to this node by an item at a node: time never, and what is to be learned by a bridge for itself
abbrev pub IsBrought : NodeRecord → NodeId → NodeId → Body → Type 0
IsBrought node at to (Tick seconds) = ⊥
IsBrought node at to (Learn hook link addr) = (to ≡ at) × (kind_at node ≡ BridgeKind)
IsBrought node at to (Frame door link packet) = Unit {0}
IsBrought node at to (Msg msg) = Unit {0}
IsBrought node at to (Join2 hook link peer peer_hook) = Unit {0}
IsBrought node at to (Join3 hook link) = Unit {0}
IsBrought node at to (Undo hook link errno) = Unit {0}
IsBrought node at to (Leave hook link) = Unit {0}
IsBrought node at to (Rebind hook old new peer peer_hook) = Unit {0}

abbrev pub Brings : NodeRecord → NodeId → Change → Type 0
Brings node at (Accepts to body tag) = IsBrought node at to body
Brings node at (Sets now) = Unit {0}
Brings node at (Makes kind made) = Unit {0}
Brings node at Retires = Unit {0}
Brings node at (Posts hook packet) = Unit {0}
Brings node at (Notes x) = Unit {0}

module _ (w : World) (item : Item) (node : NodeRecord) where
  taught : (door : Door) (link : Option LinkId) (packet addr : List ℕ) → (outcome_of (state_of node) (Frame door link packet)).learn ≡ Some addr → kind_at node ≡ BridgeKind
  taught door link packet addr is = by (frames_teach node.kept (hook_names node) door link packet)
    where
      by : (kind_at node ≡ BridgeKind) ⊎ ((outcome_of (state_of node) (Frame door link packet)).learn ≡ None) → kind_at node ≡ BridgeKind
      by (inl bridge) = bridge
      by (inr none) = absurd (true≢false (ap is_some (sym is ∙ none)))

  brought : {body b : Body} {to : NodeId} {tag : Option ℕ} → occurs.Brings w item node body to b tag → IsBrought node item.to to b
  brought (occurs.ToLearn hook link packet addr is) = (refl, taught (ByHook hook) (Some link) packet addr is)
  brought _ = tt

  brings : (body : Body) (c : Change) → occurs.Occurs w item node body c → Brings node item.to c
  brings body (Accepts to b tag) o = brought o
  brings body _ o = tt

  pub brings_effect : (body : Body) → Every (Brings node item.to) (effect_at w item node body)
  brings_effect body = every_imply (occurs.Occurs w item node body) (Brings node item.to) (brings body) (effect_at w item node body) (effect_occurs w item node body)
