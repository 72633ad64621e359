-- The hooks of a node and their names.
use Rattle.std.proofs.Common.{◌≡◌, ℕ, Bool, true, false, cond, List, [], ◌∷◌, ◌++◌, map, find, is_some, Option, Some, None, IfSome, refl, ap, sym, ◌∙◌, inl, inr}
use Rattle.std.specs.Prelude.{IsOk, Result, Ok, Err}
use Rattle.std.specs.Str.{bytes_eq}
use Rattle.std.proofs.lemmas.Bool.{cases_Bool}
use Rattle.ng_base.specs.Names.{has_name, without_name}
use Rattle.ng_base.specs.declared.kind.Kind.{Kind}
use Rattle.ng_base.specs.declared.ids.LinkId.{LinkId}
use Rattle.ng_machine.specs.declared.hook.Hook.{Hook}
use Rattle.ng_machine.specs.declared.hook.End.{End}
use Rattle.ng_base.specs.declared.errno.Errno.{Errno}
use Rattle.ng_machine.specs.Errors.{eexist, einval, enfile}
use Rattle.ng_machine.specs.Stock.{has_kind}
use Rattle.ng_machine.specs.Rules.{accepts_hook, may_of}
use Rattle.ng_machine.specs.World.{NodeRecord, node_in, kind_at, has_hook, is_named, change_hook, settle_hook, bind_to}
use Rattle.ng_machine.specs.declared.plan.Plan.{Plan}
use Rattle.ng_machine.specs.State.{State, KindState, HubState, HoleState, EchoState, SplitState, SocketState, TeeState, One2manyState, BridgeState, VlanState, PatchState, BpfState, EtherState, EtfState, MacsetState, kind_of, kind_of_kept, add_hook, cut_hook, way_of}
use Rattle.ng_machine.specs.Counters.{Count}
use Rattle.ng_machine.specs.Case.{absorb}
use Rattle.ng_machine.proofs.Owed.{made_kind, cut_kind, absorb_way}
use Rattle.ng_topology.specs.hooks.Hooks.{without_named, is_linked}
use Rattle.ng_topology.specs.NodeEntry.{IsConsistent, AcceptsHook}
use Rattle.ng_topology.specs.Topology.{Topology, MayGetHook}

-- a hook of a name is found exactly where the name is among those of the hooks
pub named_is_found : (hooks : List Hook) (name : List ℕ) → has_name (map (λ h. h.name) hooks) name ≡ is_some (find (is_named name) hooks)
named_is_found [] name = refl
named_is_found (hook ∷ hooks) name = elim (cases_Bool (bytes_eq hook.name name)) [
  | inl is ↦ rw is refl
  | inr other ↦ rw other (named_is_found hooks name)
]

pub lacks_names : (hooks : List Hook) (names : List (List ℕ)) (name : List ℕ) → map (λ h. h.name) hooks ≡ names → is_some (find (is_named name) hooks) ≡ false → has_name names name ≡ false
lacks_names hooks names name is fresh = rw (← is) (named_is_found hooks name ∙ fresh)

none_if : (o : Option Hook) → is_some o ≡ false → o ≡ None
none_if None e = refl
none_if (Some h) e = absurd (cc e)

pub lacks_hook : (hooks : List Hook) (name : List ℕ) → is_some (find (is_named name) hooks) ≡ false → find (is_named name) hooks ≡ None
lacks_hook hooks name fresh = none_if (find (is_named name) hooks) fresh

-- names after a change

pub names_push : (hooks : List Hook) (names : List (List ℕ)) (hook : Hook) → map (λ h. h.name) hooks ≡ names → map (λ h. h.name) (hooks ++ hook ∷ []) ≡ names ++ hook.name ∷ []
names_push [] names hook is = rw (← is) refl
names_push (x ∷ hooks) names hook is = rw (← is) (ap (λ (l : List (List ℕ)). x.name ∷ l) (names_push hooks (map (λ h. h.name) hooks) hook refl))

pub names_filter : (name : List ℕ) (hooks : List Hook) → map (λ h. h.name) (without_named name hooks) ≡ without_name (map (λ h. h.name) hooks) name
names_filter name [] = refl
names_filter name (x ∷ hooks) = elim (cases_Bool (bytes_eq x.name name)) [
  | inl is ↦ rw is (names_filter name hooks)
  | inr other ↦ rw other (ap (λ (l : List (List ℕ)). x.name ∷ l) (names_filter name hooks))
]

pub names_without : (name : List ℕ) (hooks : List Hook) (names : List (List ℕ)) → map (λ h. h.name) hooks ≡ names → map (λ h. h.name) (without_named name hooks) ≡ without_name names name
names_without name hooks names is = rw (← is) (names_filter name hooks)

names_map : (name : List ℕ) (f : Hook → Hook) (hooks : List Hook) → ((h : Hook) → (f h).name ≡ h.name) → map (λ h. h.name) (map (change_hook name f) hooks) ≡ map (λ h. h.name) hooks
names_map name f [] keeps = refl
names_map name f (x ∷ hooks) keeps = elim (cases_Bool (bytes_eq x.name name)) [
  | inl is ↦ rw (is, keeps x) (ap (λ (l : List (List ℕ)). x.name ∷ l) (names_map name f hooks keeps))
  | inr other ↦ rw other (ap (λ (l : List (List ℕ)). x.name ∷ l) (names_map name f hooks keeps))
]

pub names_settle : (name : List ℕ) (hooks : List Hook) → map (λ h. h.name) (map (change_hook name settle_hook) hooks) ≡ map (λ h. h.name) hooks
names_settle name hooks = names_map name settle_hook hooks (λ h. refl)

pub names_bind : (name : List ℕ) (link : LinkId) (peer : End) (hooks : List Hook) → map (λ h. h.name) (map (change_hook name (bind_to link peer.node peer.hook)) hooks) ≡ map (λ h. h.name) hooks
names_bind name link peer hooks = names_map name (bind_to link peer.node peer.hook) hooks (λ h. refl)

-- what is linked is named
linked_named : (name : List ℕ) (link : LinkId) (hooks : List Hook) → is_some (find (is_linked name link) hooks) ≡ true → has_name (map (λ h. h.name) hooks) name ≡ true
linked_named name link [] is = absurd (cc is)
linked_named name link (x ∷ hooks) is = elim (cases_Bool (bytes_eq x.name name)) [
  | inl here ↦ rw here refl
  | inr other ↦ rw other (linked_named name link hooks (rw other at is))
]

pub linked_has : (name : List ℕ) (link : LinkId) (hooks : List Hook) (names : List (List ℕ)) → map (λ h. h.name) hooks ≡ names → is_some (find (is_linked name link) hooks) ≡ true → has_name names name ≡ true
linked_has name link hooks names is linked_hook = rw (← is) (linked_named name link hooks linked_hook)

-- what a kind takes
may_if : (kind : Kind) (hook : List ℕ) (b : Bool) → accepts_hook kind hook ≡ b → b ≡ true → IsOk (may_of kind hook)
may_if kind hook true is e = rw is refl
may_if kind hook false is e = absurd (cc e)

pub takes_may : (kind : Kind) (hook : List ℕ) → accepts_hook kind hook ≡ true → IsOk (may_of kind hook)
takes_may kind hook is = may_if kind hook (accepts_hook kind hook) refl is

-- WHAT AN ENTRY SAYS AFTER A HOOK WAS MADE OR CUT

pub consistent_added : (kind : Kind) (was now : State) (hooks after : List Hook) (plan : Option Plan) (hook : Hook) → IsConsistent kind was hooks true plan → now ≡ add_hook was hook.name → after ≡ hooks ++ hook ∷ [] → IsConsistent kind now after true None
consistent_added kind was now hooks after plan hook consistent is more = record {
  kind = ap kind_of is ∙ made_kind was.kept hook.name ∙ consistent.kind;
  hooks = ap (map (λ h. h.name)) more ∙ names_push hooks was.hooks hook consistent.hooks ∙ sym (ap (λ (s : State). s.hooks) is);
  planned = tt;
  lent = λ away. absurd (cc away);
}

pub consistent_cut : (kind : Kind) (was now : State) (hooks after : List Hook) (plan : Option Plan) (name : List ℕ) → IsConsistent kind was hooks true plan → now ≡ cut_hook was name → after ≡ without_named name hooks → IsConsistent kind now after true None
consistent_cut kind was now hooks after plan name consistent is less = record {
  kind = ap kind_of is ∙ cut_kind was.kept name ∙ consistent.kind;
  hooks = ap (map (λ h. h.name)) less ∙ names_without name hooks was.hooks consistent.hooks ∙ sym (ap (λ (s : State). s.hooks) is);
  planned = tt;
  lent = λ away. absurd (cc away);
}

-- a plan that is one state's is that of another with the same way
planned_same : (was now : State) (plan : Option Plan) → way_of now ≡ way_of was → IfSome plan (λ p. way_of was ≡ Some p) → IfSome plan (λ p. way_of now ≡ Some p)
planned_same was now None same planned = tt
planned_same was now (Some p) same planned = same ∙ planned

-- WHAT AN ENTRY SAYS AFTER ITS BOX CAME HOME AS IT WENT, OR COUNTED

pub consistent_restored : (kind : Kind) (was now : State) (hooks : List Hook) (home : Bool) (plan : Option Plan) → IsConsistent kind was hooks home plan → now ≡ record { hooks = map (λ h. h.name) hooks; kept = was.kept } → IsConsistent kind now hooks true plan
consistent_restored kind was now hooks home plan consistent is = record {
  kind = ap kind_of is ∙ consistent.kind;
  hooks = sym (ap (λ (s : State). s.hooks) is);
  planned = planned_same was now plan (ap way_of is ∙ ap (λ (l : List (List ℕ)). way_of (record { hooks = l; kept = was.kept })) consistent.hooks) consistent.planned;
  lent = λ away. absurd (cc away);
}

-- to move to ng_machine
pub absorb_kind : (kept : KindState) (counts : List Count) → kind_of_kept (absorb kept counts) ≡ kind_of_kept kept
absorb_kind (TeeState s) counts = refl
absorb_kind (BridgeState s) counts = refl
absorb_kind (BpfState s) counts = refl
absorb_kind (EtfState s) counts = refl
absorb_kind (MacsetState s) counts = refl
absorb_kind (One2manyState s) counts = refl
absorb_kind (HubState s) counts = refl
absorb_kind HoleState counts = refl
absorb_kind EchoState counts = refl
absorb_kind SplitState counts = refl
absorb_kind SocketState counts = refl
absorb_kind (VlanState s) counts = refl
absorb_kind (PatchState s) counts = refl
absorb_kind (EtherState s) counts = refl

pub consistent_absorbed : (kind : Kind) (was now : State) (hooks : List Hook) (plan : Option Plan) (counts : List Count) → IsConsistent kind was hooks true plan → now ≡ record was { kept = absorb was.kept counts } → IsConsistent kind now hooks true plan
consistent_absorbed kind was now hooks plan counts consistent is = record {
  kind = ap kind_of is ∙ absorb_kind was.kept counts ∙ consistent.kind;
  hooks = consistent.hooks ∙ sym (ap (λ (s : State). s.hooks) is);
  planned = planned_same was now plan (ap way_of is ∙ absorb_way was.kept was.hooks counts) consistent.planned;
  lent = λ away. absurd (cc away);
}

-- WHERE `may` ANSWERS OK

accepts_if : (kind : Kind) (hook : List ℕ) (b : Bool) → accepts_hook kind hook ≡ b → may_of kind hook ≡ Ok tt → b ≡ true
accepts_if kind hook true is may = refl
accepts_if kind hook false is may = let never : Err einval ≡ Ok tt = rw is at may in absurd (cc never)

accepts_unless : (node : NodeRecord) (hook : List ℕ) (b : Bool) → has_hook node hook ≡ b → cond b (Err eexist) (may_of (kind_at node) hook) ≡ Ok tt → AcceptsHook node hook
accepts_unless node hook true is may = absurd (cc may)
accepts_unless node hook false is may = record { allowed = accepts_if (kind_at node) hook (accepts_hook (kind_at node) hook) refl may; fresh = is }

-- the node may get the hook
pub may_gets : (t : Topology) (at : End) (r : Result Unit Errno) → r ≡ Ok tt → ((node : NodeRecord) → node_in t.nodes at.node ≡ Some node → r ≡ cond (has_hook node at.hook) (Err eexist) (may_of (kind_at node) at.hook)) → MayGetHook t at
may_gets t at r ok is node there = accepts_unless node at.hook (has_hook node at.hook) refl (sym (is node there) ∙ ok)

left_if : (kinds : List Kind) (kind : Kind) (hook : List ℕ) (b : Bool) → has_kind kinds kind ≡ b → cond b (may_of kind hook) (Err enfile) ≡ Ok tt → (has_kind kinds kind ≡ true) × (accepts_hook kind hook ≡ true)
left_if kinds kind hook true is may = (is, accepts_if kind hook (accepts_hook kind hook) refl may)
left_if kinds kind hook false is may = absurd (cc may)

-- a blank box is left and takes the hook
pub blank_may_gets : (t : Topology) (kind : Kind) (hook : List ℕ) (r : Result Unit Errno) → r ≡ Ok tt → r ≡ cond (has_kind t.stock kind) (may_of kind hook) (Err enfile) → (has_kind t.stock kind ≡ true) × (accepts_hook kind hook ≡ true)
blank_may_gets t kind hook r ok is = left_if t.stock kind hook (has_kind t.stock kind) refl (sym is ∙ ok)
