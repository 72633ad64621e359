-- What holds of each state that a node can have: its kind takes each of its hooks, and what a part keeps by hooks is kept of
-- hooks that are there. So a hook that is cut right after it was made leaves the state as it was before.
use Rattle.std.specs.Prelude.{◌≡◌, ℕ, ◌==◌, Bool, true, false, List}
use Rattle.std.specs.List.{list_any}
use Rattle.ng_base.specs.Names.{has_name}
use Rattle.ng_machine.specs.declared.plan.VlanWay.{VlanWay}
use Rattle.ng_machine.specs.declared.plan.EtfWay.{EtfWay}
use Rattle.ng_machine.specs.Words.{Every}
use Rattle.ng_machine.specs.Rules.{accepts_hook}
use Rattle.ng_machine.specs.kinds.Bridge.{Link, Host, link_number}
use Rattle.ng_machine.specs.kinds.Bpf.{Filter}
use Rattle.ng_machine.specs.State.{KindState, HubState, HoleState, EchoState, SplitState, SocketState, TeeState, One2manyState, BridgeState, VlanState, PatchState, BpfState, EtherState, EtfState, MacsetState, State, kind_of, add_hook, cut_hook}

-- one of the hooks is that of a link
abbrev pub has_link : List (List ℕ) → ℕ → Bool
has_link hooks number = list_any (λ hook. link_number hook == number) hooks

-- what the part keeps by hooks is of these
abbrev pub KeepsByHooks : KindState → List (List ℕ) → Type 0
KeepsByHooks (One2manyState s) hooks = Every (λ (row : List ℕ × List ℕ). has_name hooks row.0 ≡ true) s.rows
KeepsByHooks (BridgeState s) hooks = Every (λ (l : Link). has_link hooks l.number ≡ true) s.links × Every (λ (h : Host). has_link hooks h.link ≡ true) s.hosts
KeepsByHooks (VlanState s) hooks = Every (λ (f : VlanWay). has_name hooks f.hook ≡ true) s.filters
KeepsByHooks (BpfState s) hooks = Every (λ (f : Filter). has_name hooks f.way.hook ≡ true) s
KeepsByHooks (EtfState s) hooks = Every (λ (f : EtfWay). has_name hooks f.hook ≡ true) s.filters
KeepsByHooks (HubState persistent) hooks = Unit {0}
KeepsByHooks HoleState hooks = Unit {0}
KeepsByHooks EchoState hooks = Unit {0}
KeepsByHooks SplitState hooks = Unit {0}
KeepsByHooks SocketState hooks = Unit {0}
KeepsByHooks (TeeState rows) hooks = Unit {0}
KeepsByHooks (PatchState ops) hooks = Unit {0}
KeepsByHooks (EtherState s) hooks = Unit {0}
KeepsByHooks (MacsetState s) hooks = Unit {0}

pub record IsSound (state : State) : Type 0 where
  pub taken : Every (λ (hook : List ℕ). accepts_hook (kind_of state) hook ≡ true) state.hooks
  pub kept : KeepsByHooks state.kept state.hooks

-- a hook that is cut right after it was made leaves no trace
abbrev pub CutUndoes : Type 0
CutUndoes =
    (state : State) (hook : List ℕ) → IsSound state → accepts_hook (kind_of state) hook ≡ true → has_name state.hooks hook ≡ false
    → cut_hook (add_hook state hook) hook ≡ state
