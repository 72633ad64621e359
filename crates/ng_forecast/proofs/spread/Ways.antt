-- What becomes of a packet, in the steps in which the code finds it.
use Rattle.std.proofs.Common.{◌≡◌, ◌∙◌, ℕ, Bool, true, false, not, List, [], ◌∷◌, ◌++◌, refl, sym, ap}
use Rattle.ng_base.specs.declared.ids.NodeId.{NodeId}
use Rattle.std.specs.declared.option.Option.{Option}
use Rattle.std.specs.declared.option.Option.TheVariants.{None, Some}
use Rattle.std.specs.Prelude.{is_some, is_none}
use Rattle.ng_base.specs.declared.kind.Kind.{Kind}
use Rattle.ng_base.specs.declared.kind.Kind.TheVariants as kinds
use Rattle.ng_machine.specs.declared.body.Door.{Door}
use Rattle.ng_machine.specs.declared.body.Door.TheVariants.{Wire, Hook}
use Rattle.ng_machine.specs.declared.body.Exit.{Exit}
use Rattle.ng_machine.specs.declared.plan.Plan.{Plan}
use Rattle.ng_machine.specs.declared.plan.Plan.TheVariants.{Discard, Echo, Fan, Ways, Vlan, Patch, Bpf, Ether, Socket, Bridge, Etf, Macset}
use Rattle.ng_machine.specs.State.{KindState, HubState, HoleState, EchoState, SplitState, SocketState, TeeState, One2manyState, BridgeState, VlanState, PatchState, BpfState, EtherState, EtfState, MacsetState, kind_of_kept, way_of_kept, way_of}
use Rattle.ng_machine.specs.Case.{eval, goes_ways, outcome_by_plan}
use Rattle.ng_machine.specs.kinds.Ether.{arrives}
use Rattle.ng_machine.specs.Effect.{door_name}
use Rattle.ng_machine.specs.World.{NodeRecord, hook_at, kind_at, node_in, state_of}
use Rattle.ng_machine.specs.Spread.{Flight, Vanishes, Untold, Comes, comes, fate, fate_at, fate_if, is_followed, leaving, sent_by, sent_on, spread_by, spread_in}
use Rattle.ng_forecast.specs.spread.Following.{AreExits, ArrivesAt, sent_from}

-- a node at which packets are followed has a plan
has_way_kept : (kept : KindState) (hooks : List (List ℕ)) → is_followed (kind_of_kept kept) ≡ true → way_of_kept kept hooks ≡ None → ⊥
has_way_kept (HubState persistent) hooks f e = cc
has_way_kept HoleState hooks f e = cc
has_way_kept EchoState hooks f e = cc
has_way_kept SplitState hooks f e = cc
has_way_kept SocketState hooks f e = cc
has_way_kept (TeeState rows) hooks f e = cc
has_way_kept (One2manyState s) hooks f e = cc
has_way_kept (BridgeState s) hooks f e = cc
has_way_kept (VlanState s) hooks f e = cc
has_way_kept (PatchState ops) hooks f e = cc
has_way_kept (BpfState s) hooks f e = cc
has_way_kept (EtherState s) hooks f e = cc
has_way_kept (EtfState s) hooks f e = cc
has_way_kept (MacsetState s) hooks f e = cc

pub has_way : (node : NodeRecord) → is_followed (kind_at node) ≡ true → way_of (state_of node) ≡ None → ⊥
has_way node f e = has_way_kept node.kept (state_of node).hooks f e

-- where a packet arrives, its fate is that of its node
pub arrives_is : (nodes : List (Option NodeRecord)) (f : Flight) (kind : Kind) (a : ArrivesAt nodes f kind) → fate nodes f ≡ fate_if nodes f a.node false (is_followed kind)
arrives_is nodes f kind a =
    ap (fate_at nodes f) a.there
    ∙ ap (λ (b : Bool). fate_if nodes f a.node b (is_followed (kind_at a.node))) a.by_hook
    ∙ ap (λ (k : Kind). fate_if nodes f a.node false (is_followed k)) a.kind_is

pub untold_is : (nodes : List (Option NodeRecord)) (f : Flight) (kind : Kind) → ArrivesAt nodes f kind → is_followed kind ≡ false → fate nodes f ≡ Untold
untold_is nodes f kind a unfollowed = arrives_is nodes f kind a ∙ ap (fate_if nodes f a.node false) unfollowed

-- what a node sends arrives as it does by the node's number
sent_is : (nodes : List (Option NodeRecord)) (at : NodeId) (node : NodeRecord) (sends : List (List ℕ × List ℕ)) → node_in nodes at ≡ Some node
    → sent_on nodes node sends ≡ sent_from nodes at sends
sent_is nodes at node [] there = refl
sent_is nodes at node (x ∷ sends) there =
    ap (λ (o : Option NodeRecord). sent_by nodes (hook_at o x.0) x.1 ++ sent_on nodes node sends) (sym there)
    ∙ ap (λ (l : List Flight). sent_by nodes (hook_at (node_in nodes at) x.0) x.1 ++ l) (sent_is nodes at node sends there)

pub comes_is : (nodes : List (Option NodeRecord)) (f : Flight) (kind : Kind) (plan : Plan) (a : ArrivesAt nodes f kind) → is_followed kind ≡ true → way_of (state_of a.node) ≡ Some plan
    → fate nodes f ≡ Comes (leaving f.to (door_name f.door) (eval plan f.door f.packet).leaves) (sent_from nodes f.to (eval plan f.door f.packet).sends)
comes_is nodes f kind plan a followed way =
    arrives_is nodes f kind a ∙ ap (fate_if nodes f a.node false) followed
    ∙ ap (λ (p : Option Plan). comes nodes f a.node (outcome_by_plan (state_of a.node) p f.door f.packet)) way
    ∙ ap (Comes (leaving f.to (door_name f.door) (eval plan f.door f.packet).leaves)) (sent_is nodes f.to a.node (eval plan f.door f.packet).sends a.there)

-- no packet by the wire goes to the reader
ways_wire : (kind : Kind) (hooks : List (List ℕ)) (packet : List ℕ) → AreExits Wire (goes_ways kind hooks Wire packet).leaves
ways_wire kinds.Hub hooks packet = tt
ways_wire kinds.Hole hooks packet = tt
ways_wire kinds.Echo hooks packet = tt
ways_wire kinds.Tee hooks packet = tt
ways_wire kinds.Split hooks packet = tt
ways_wire kinds.One2many hooks packet = tt
ways_wire kinds.Bridge hooks packet = tt
ways_wire kinds.Vlan hooks packet = tt
ways_wire kinds.Patch hooks packet = tt
ways_wire kinds.Bpf hooks packet = tt
ways_wire kinds.Ether hooks packet = tt
ways_wire kinds.Socket hooks packet = tt
ways_wire kinds.Etf hooks packet = tt
ways_wire kinds.Macset hooks packet = tt

arrives_wire : (has_lower : Bool) (packet : List ℕ) → AreExits Wire (arrives has_lower packet).leaves
arrives_wire true packet = tt
arrives_wire false packet = (tt, tt)

by_wire : (plan : Plan) (packet : List ℕ) → AreExits Wire (eval plan Wire packet).leaves
by_wire Discard packet = tt
by_wire Echo packet = tt
by_wire (Fan hooks) packet = tt
by_wire (Ways kind hooks) packet = ways_wire kind hooks packet
by_wire (Vlan hooks kind filters) packet = tt
by_wire (Patch hooks ops) packet = tt
by_wire (Bpf ways) packet = tt
by_wire (Ether has_lower) packet = arrives_wire has_lower packet
by_wire Socket packet = tt
by_wire (Bridge config links hosts) packet = tt
by_wire (Etf hooks filters) packet = tt
by_wire (Macset hooks set) packet = tt

by_hook : (hook : List ℕ) (leaves : List (Exit × List ℕ)) → AreExits (Hook hook) leaves
by_hook hook [] = tt
by_hook hook (x ∷ leaves) = (tt, by_hook hook leaves)

pub are_exits : (plan : Plan) (door : Door) (packet : List ℕ) → AreExits door (eval plan door packet).leaves
are_exits plan Wire packet = by_wire plan packet
are_exits plan (Hook hook) packet = by_hook hook (eval plan (Hook hook) packet).leaves

-- a hook isn't there where none is found
pub not_some : {A : Type 0} (o : Option A) → not (is_some o) ≡ is_none o
not_some None = refl
not_some (Some x) = refl

-- A packet that may visit no more nodes

nowhere_if : (nodes : List (Option NodeRecord)) (f : Flight) (node : NodeRecord) (followed : Bool) → spread_by (λ fs. None) (fate_if nodes f node false followed) ≡ None
nowhere_if nodes f node true = refl
nowhere_if nodes f node false = refl

pub nowhere : (nodes : List (Option NodeRecord)) (f : Flight) (kind : Kind) → ArrivesAt nodes f kind → spread_in nodes 0 f ≡ None
nowhere nodes f kind a = ap (spread_by (λ fs. None)) (arrives_is nodes f kind a) ∙ nowhere_if nodes f a.node (is_followed kind)

pub vanished : (nodes : List (Option NodeRecord)) (f : Flight) → fate nodes f ≡ Vanishes → spread_in nodes 0 f ≡ Some []
vanished nodes f e = ap (spread_by (λ fs. None)) e
