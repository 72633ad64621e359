-- The state of a node as data: its hooks in the order in which they were made, and what its kind keeps beside them.
use Rattle.std.specs.Prelude.{ℕ, Bool, false, List, [], ◌∷◌, ◌++◌, map, Option, Some, None}
use Rattle.ng_base.specs.Names.{has_name, without_name}
use Rattle.ng_base.specs.declared.kind.Kind.{Kind}
use Rattle.ng_base.specs.declared.kind.Kind.TheVariants.{Hub, Hole, Echo, Tee, Split, One2many as OfMany, Bridge as OfBridge, Vlan as OfVlan, Patch, Bpf, Ether as OfEther, Socket, Etf as OfEtf, Macset as OfMacset}
use Rattle.ng_machine.specs.declared.plan.PatchOp.{PatchOp}
use Rattle.ng_machine.specs.declared.plan.Plan.{Plan}
use Rattle.ng_machine.specs.declared.plan.Plan.TheVariants.{Discard, Echo as Echoes, Fan, Ways, Vlan as VlanPlan, Patch as PatchPlan, Bpf as BpfPlan, Ether as EtherPlan, Socket as SocketPlan, Bridge as BridgePlan, Etf as EtfPlan, Macset as MacsetPlan}
use Rattle.ng_machine.specs.Names.{lower}
use Rattle.ng_machine.specs.Counters.{Rows}
use Rattle.ng_machine.specs.kinds.Tee.{blank_tee}
use Rattle.ng_machine.specs.kinds.One2many.{One2many, blank_one2many, many_with_hook, many_without_hook}
use Rattle.ng_machine.specs.kinds.Bridge.{Bridge, blank_bridge, bridge_with_hook, bridge_without_hook, link_way, host_way}
use Rattle.ng_machine.specs.kinds.Vlan.{Vlan, blank_vlan, vlan_without_hook}
use Rattle.ng_machine.specs.kinds.Bpf.{Filter, bpf_with_hook, bpf_without_hook}
use Rattle.ng_machine.specs.kinds.Ether.{Ether, blank_ether}
use Rattle.ng_machine.specs.kinds.Etf.{Etf, blank_etf, etf_without_hook}
use Rattle.ng_machine.specs.kinds.Macset.{Macset, blank_macset}

-- what a kind keeps beside its hooks
pub data KindState : Type 0 where
  HubState : Bool → KindState  -- it stays without hooks
  HoleState EchoState SplitState SocketState : KindState
  TeeState : Rows → KindState  -- counters of each name of a hook
  One2manyState : One2many → KindState
  BridgeState : Bridge → KindState
  VlanState : Vlan → KindState
  PatchState : List PatchOp → KindState
  BpfState : List Filter → KindState  -- in the order of its hooks
  EtherState : Ether → KindState
  EtfState : Etf → KindState
  MacsetState : Macset → KindState

pub record State : Type 0 where
  pub hooks : List (List ℕ)
  pub kept : KindState

abbrev pub kind_of_kept : KindState → Kind
kind_of_kept (HubState persistent) = Hub
kind_of_kept HoleState = Hole
kind_of_kept EchoState = Echo
kind_of_kept SplitState = Split
kind_of_kept SocketState = Socket
kind_of_kept (TeeState rows) = Tee
kind_of_kept (One2manyState s) = OfMany
kind_of_kept (BridgeState s) = OfBridge
kind_of_kept (VlanState s) = OfVlan
kind_of_kept (PatchState ops) = Patch
kind_of_kept (BpfState s) = Bpf
kind_of_kept (EtherState s) = OfEther
kind_of_kept (EtfState s) = OfEtf
kind_of_kept (MacsetState s) = OfMacset

abbrev pub kind_of : State → Kind
kind_of state = kind_of_kept state.kept

abbrev pub blank_kept : Kind → KindState
blank_kept Hub = HubState false
blank_kept Hole = HoleState
blank_kept Echo = EchoState
blank_kept Tee = TeeState blank_tee
blank_kept Split = SplitState
blank_kept OfMany = One2manyState blank_one2many
blank_kept OfBridge = BridgeState blank_bridge
blank_kept OfVlan = VlanState blank_vlan
blank_kept Patch = PatchState []
blank_kept Bpf = BpfState []
blank_kept OfEther = EtherState blank_ether
blank_kept Socket = SocketState
blank_kept OfEtf = EtfState blank_etf
blank_kept OfMacset = MacsetState blank_macset

-- a node before any hook
abbrev pub blank_of : Kind → State
blank_of kind = record { hooks = []; kept = blank_kept kind }

-- What a new hook brings, and what goes with one: counters of one2many, bridge and bpf begin and end with their hook, a
-- bpf's program with it too, a bridge's hosts end with their link, and the filters of vlan and etf with their hook. A tee's
-- counters stay.

abbrev pub kept_with_hook : KindState → List ℕ → KindState
kept_with_hook (One2manyState s) hook = One2manyState (many_with_hook s hook)
kept_with_hook (BridgeState s) hook = BridgeState (bridge_with_hook s hook)
kept_with_hook (BpfState s) hook = BpfState (bpf_with_hook s hook)
kept_with_hook (HubState persistent) hook = HubState persistent
kept_with_hook HoleState hook = HoleState
kept_with_hook EchoState hook = EchoState
kept_with_hook SplitState hook = SplitState
kept_with_hook SocketState hook = SocketState
kept_with_hook (TeeState rows) hook = TeeState rows
kept_with_hook (VlanState s) hook = VlanState s
kept_with_hook (PatchState ops) hook = PatchState ops
kept_with_hook (EtherState s) hook = EtherState s
kept_with_hook (EtfState s) hook = EtfState s
kept_with_hook (MacsetState s) hook = MacsetState s

abbrev pub kept_without_hook : KindState → List ℕ → KindState
kept_without_hook (One2manyState s) hook = One2manyState (many_without_hook s hook)
kept_without_hook (BridgeState s) hook = BridgeState (bridge_without_hook s hook)
kept_without_hook (BpfState s) hook = BpfState (bpf_without_hook s hook)
kept_without_hook (VlanState s) hook = VlanState (vlan_without_hook s hook)
kept_without_hook (EtfState s) hook = EtfState (etf_without_hook s hook)
kept_without_hook (HubState persistent) hook = HubState persistent
kept_without_hook HoleState hook = HoleState
kept_without_hook EchoState hook = EchoState
kept_without_hook SplitState hook = SplitState
kept_without_hook SocketState hook = SocketState
kept_without_hook (TeeState rows) hook = TeeState rows
kept_without_hook (PatchState ops) hook = PatchState ops
kept_without_hook (EtherState s) hook = EtherState s
kept_without_hook (MacsetState s) hook = MacsetState s

-- all of some hooks
abbrev pub kept_without_hooks : KindState → List (List ℕ) → KindState
kept_without_hooks kept [] = kept
kept_without_hooks kept (hook ∷ hooks) = kept_without_hooks (kept_without_hook kept hook) hooks

-- a hook is made behind those that are there
abbrev pub add_hook : State → List ℕ → State
add_hook state hook = record { hooks = state.hooks ++ hook ∷ []; kept = kept_with_hook state.kept hook }

abbrev pub cut_hook : State → List ℕ → State
cut_hook state hook = record { hooks = without_name state.hooks hook; kept = kept_without_hook state.kept hook }

-- What the rule of a kind for packets reads of a node's state, without counters. A plan that is made of it serves
-- packets beside each other until a hook or the part changes. A one2many has none, since its packets change it.
abbrev pub way_of_kept : KindState → List (List ℕ) → Option Plan
way_of_kept (HubState persistent) hooks = Some (Fan hooks)
way_of_kept HoleState hooks = Some Discard
way_of_kept EchoState hooks = Some Echoes
way_of_kept (TeeState rows) hooks = Some (Ways Tee hooks)
way_of_kept SplitState hooks = Some (Ways Split hooks)
way_of_kept (One2manyState s) hooks = None
way_of_kept (BridgeState s) hooks = Some (BridgePlan s.config (map link_way s.links) (map host_way s.hosts))
way_of_kept (VlanState s) hooks = Some (VlanPlan hooks s.kind s.filters)
way_of_kept (PatchState ops) hooks = Some (PatchPlan hooks ops)
way_of_kept (BpfState s) hooks = Some (BpfPlan (map (λ f. f.way) s))
way_of_kept (EtherState s) hooks = Some (EtherPlan (has_name hooks lower))
way_of_kept SocketState hooks = Some SocketPlan
way_of_kept (EtfState s) hooks = Some (EtfPlan hooks s.filters)
way_of_kept (MacsetState s) hooks = Some (MacsetPlan hooks s.addresses)

abbrev pub way_of : State → Option Plan
way_of state = way_of_kept state.kept state.hooks
