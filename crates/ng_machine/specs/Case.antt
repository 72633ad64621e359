-- What a node does with one body: the part of its state after, and the outcome. Hooks are never touched by it.
use Rattle.std.specs.Prelude.{ℕ, List, Option, Some, None}
use Rattle.ng_base.specs.declared.kind.Kind.{Kind}
use Rattle.ng_base.specs.declared.kind.Kind.TheVariants.{Tee, Split}
use Rattle.ng_machine.specs.declared.body.Body.{Body}
use Rattle.ng_machine.specs.declared.body.Body.TheVariants.{Frame, Msg, Tick, Learn}
use Rattle.ng_machine.specs.declared.body.Door.{Door}
use Rattle.ng_machine.specs.declared.outcome.Outcome.{Outcome}
use Rattle.ng_machine.specs.declared.plan.Plan.{Plan}
use Rattle.ng_machine.specs.declared.plan.Plan.TheVariants.{Discard, Echo, Fan, Ways, Vlan, Patch, Bpf, Ether, Socket, Bridge, Etf, Macset}
use Rattle.ng_machine.specs.State.{KindState, HubState, HoleState, EchoState, SplitState, SocketState, TeeState, One2manyState, BridgeState, VlanState, PatchState, BpfState, EtherState, EtfState, MacsetState, State, way_of}
use Rattle.ng_machine.specs.Counters.{Count, count_row, after_counts}
use Rattle.ng_machine.specs.Outcome.{nothing, Reply, invalid}
use Rattle.ng_machine.specs.kinds.Hub.{fans, hub_message}
use Rattle.ng_machine.specs.kinds.Hole.{discards}
use Rattle.ng_machine.specs.kinds.Echo.{echoes}
use Rattle.ng_machine.specs.kinds.Tee.{tees, tee_message}
use Rattle.ng_machine.specs.kinds.Split.{parts}
use Rattle.ng_machine.specs.kinds.One2many.{deals, count_many, many_after, one2many_message}
use Rattle.ng_machine.specs.kinds.Bridge.{bridges, count_bridge, bridge_learn, bridge_tick, bridge_message}
use Rattle.ng_machine.specs.kinds.Vlan.{tags, vlan_message}
use Rattle.ng_machine.specs.kinds.Patch.{patches, patch_message}
use Rattle.ng_machine.specs.kinds.Bpf.{filters, count_filter, bpf_message}
use Rattle.ng_machine.specs.kinds.Ether.{passes, ether_message}
use Rattle.ng_machine.specs.kinds.Socket.{hands_over}
use Rattle.ng_machine.specs.kinds.Etf.{sorts, count_etf, etf_message}
use Rattle.ng_machine.specs.kinds.Macset.{picks, count_macset, macset_message}

-- Packets

-- the two kinds whose rule reads the names of hooks alone
abbrev pub goes_ways : Kind → List (List ℕ) → Door → List ℕ → Outcome
goes_ways Tee hooks door packet = tees hooks door packet
goes_ways Split hooks door packet = parts hooks door packet
goes_ways _ hooks door packet = nothing

-- what becomes of a packet, by what a plan holds alone
abbrev pub eval : Plan → Door → List ℕ → Outcome
eval Discard door packet = discards door packet
eval Echo door packet = echoes door packet
eval (Fan hooks) door packet = fans hooks door packet
eval (Ways kind hooks) door packet = goes_ways kind hooks door packet
eval (Vlan hooks kind filters) door packet = tags hooks kind filters door packet
eval (Patch hooks ops) door packet = patches hooks ops door packet
eval (Bpf ways) door packet = filters ways door packet
eval (Ether has_lower) door packet = passes has_lower door packet
eval Socket door packet = hands_over door packet
eval (Bridge config links hosts) door packet = bridges config links hosts door packet
eval (Etf hooks filters) door packet = sorts hooks filters door packet
eval (Macset hooks addresses) door packet = picks hooks addresses door packet

-- the one kind without a plan
abbrev pub outcome_without_plan : KindState → List (List ℕ) → Door → List ℕ → Outcome
outcome_without_plan (One2manyState s) hooks door packet = deals s hooks door packet
outcome_without_plan _ hooks door packet = nothing

abbrev pub outcome_by_plan : State → Option Plan → Door → List ℕ → Outcome
outcome_by_plan state None door packet = outcome_without_plan state.kept state.hooks door packet
outcome_by_plan state (Some plan) door packet = eval plan door packet

-- what is counted reaches the part, and nothing else of it
abbrev pub absorb : KindState → List Count → KindState
absorb (TeeState rows) counts = TeeState (after_counts count_row rows counts)
absorb (BridgeState s) counts = BridgeState (after_counts count_bridge s counts)
absorb (BpfState s) counts = BpfState (after_counts count_filter s counts)
absorb (EtfState s) counts = EtfState (after_counts count_etf s counts)
absorb (MacsetState s) counts = MacsetState (after_counts count_macset s counts)
absorb (One2manyState s) counts = One2manyState (after_counts count_many s counts)
absorb (HubState persistent) counts = HubState persistent
absorb HoleState counts = HoleState
absorb EchoState counts = EchoState
absorb SplitState counts = SplitState
absorb SocketState counts = SocketState
absorb (VlanState s) counts = VlanState s
absorb (PatchState ops) counts = PatchState ops
absorb (EtherState s) counts = EtherState s

-- the part after a packet by a door: a one2many's cursor moves with its counters
abbrev pub kept_after_frame : KindState → List (List ℕ) → Door → List Count → KindState
kept_after_frame (One2manyState s) hooks door counts = One2manyState (many_after s hooks door counts)
kept_after_frame (HubState persistent) hooks door counts = absorb (HubState persistent) counts
kept_after_frame HoleState hooks door counts = absorb HoleState counts
kept_after_frame EchoState hooks door counts = absorb EchoState counts
kept_after_frame SplitState hooks door counts = absorb SplitState counts
kept_after_frame SocketState hooks door counts = absorb SocketState counts
kept_after_frame (TeeState rows) hooks door counts = absorb (TeeState rows) counts
kept_after_frame (BridgeState s) hooks door counts = absorb (BridgeState s) counts
kept_after_frame (VlanState s) hooks door counts = absorb (VlanState s) counts
kept_after_frame (PatchState ops) hooks door counts = absorb (PatchState ops) counts
kept_after_frame (BpfState s) hooks door counts = absorb (BpfState s) counts
kept_after_frame (EtherState s) hooks door counts = absorb (EtherState s) counts
kept_after_frame (EtfState s) hooks door counts = absorb (EtfState s) counts
kept_after_frame (MacsetState s) hooks door counts = absorb (MacsetState s) counts

-- Messages of the kind's cookie

abbrev pub as_kept : {S : Type 0} → (S → KindState) → Reply S → Reply KindState
as_kept make reply = record { after = make reply.after; outcome = reply.outcome }

-- a kind without messages refuses each
abbrev pub reply_of : KindState → List (List ℕ) → ℕ → List ℕ → Reply KindState
reply_of (HubState persistent) hooks number args = as_kept HubState (hub_message persistent number args)
reply_of HoleState hooks number args = invalid HoleState
reply_of EchoState hooks number args = invalid EchoState
reply_of SplitState hooks number args = invalid SplitState
reply_of SocketState hooks number args = invalid SocketState
reply_of (TeeState rows) hooks number args = as_kept TeeState (tee_message rows number args)
reply_of (One2manyState s) hooks number args = as_kept One2manyState (one2many_message s number args)
reply_of (BridgeState s) hooks number args = as_kept BridgeState (bridge_message s number args)
reply_of (VlanState s) hooks number args = as_kept VlanState (vlan_message s hooks number args)
reply_of (PatchState ops) hooks number args = as_kept PatchState (patch_message ops number args)
reply_of (BpfState s) hooks number args = as_kept BpfState (bpf_message s number args)
reply_of (EtherState s) hooks number args = as_kept EtherState (ether_message s number args)
reply_of (EtfState s) hooks number args = as_kept EtfState (etf_message s hooks number args)
reply_of (MacsetState s) hooks number args = as_kept MacsetState (macset_message s number args)

abbrev pub reply_to : State → ℕ → List ℕ → Reply KindState
reply_to state number args = reply_of state.kept state.hooks number args

-- Ticks and learning are a bridge's

abbrev pub kept_after_tick : KindState → ℕ → KindState
kept_after_tick (BridgeState s) seconds = BridgeState (bridge_tick s seconds)
kept_after_tick kept seconds = kept

abbrev pub kept_after_learn : KindState → List ℕ → List ℕ → KindState
kept_after_learn (BridgeState s) hook addr = BridgeState (bridge_learn s hook addr)
kept_after_learn kept hook addr = kept

-- Together

abbrev pub outcome_of : State → Body → Outcome
outcome_of state (Frame door link packet) = outcome_by_plan state (way_of state) door packet
outcome_of state (Msg msg) = (reply_to state msg.header.cmd msg.args).outcome
outcome_of state _ = nothing

abbrev pub kept_after : State → Body → KindState
kept_after state (Frame door link packet) = kept_after_frame state.kept state.hooks door (outcome_of state (Frame door link packet)).counts
kept_after state (Msg msg) = (reply_to state msg.header.cmd msg.args).after
kept_after state (Tick seconds) = kept_after_tick state.kept seconds
kept_after state (Learn hook link addr) = kept_after_learn state.kept hook addr
kept_after state _ = state.kept
