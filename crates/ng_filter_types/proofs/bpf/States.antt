-- The state of a node after what is done to its hooks.
use Rattle.std.proofs.Common.{◌≡◌, ℕ, false, List, sym, ap, ◌∙◌}
use Rattle.ng_base.specs.Names.{has_name}
use Rattle.ng_machine.specs.kinds.Bpf.{Filter, bpf_with_hook, bpf_without_hook, has_filter}
use Rattle.ng_machine.specs.State.{State, BpfState, add_hook, cut_hook}
use Rattle.ng_filter_types.specs.bpf.Filters.{hooks_of}
use Rattle.ng_filter_types.specs.bpf.State.{bpf_state}
use Rattle.ng_filter_types.proofs.bpf.Lists.{hooks_with, hooks_without, named, undone}

abbrev pub with_hooks : List Filter → List (List ℕ) → State
with_hooks s hooks = record { hooks = hooks; kept = BpfState s }

-- a name that no hook has
pub is_new : (s : List Filter) (hook : List ℕ) → has_name (hooks_of s) hook ≡ false → has_filter s hook ≡ false
is_new s hook fresh = sym (named s hook) ∙ fresh

pub state_added : (s : List Filter) (hook : List ℕ) → bpf_state (bpf_with_hook s hook) ≡ add_hook (bpf_state s) hook
state_added s hook = ap (with_hooks (bpf_with_hook s hook)) (hooks_with s hook)

pub state_cut : (s : List Filter) (hook : List ℕ) → bpf_state (bpf_without_hook s hook) ≡ cut_hook (bpf_state s) hook
state_cut s hook = ap (with_hooks (bpf_without_hook s hook)) (hooks_without s hook)

pub state_undone : (s : List Filter) (hook : List ℕ) → has_name (hooks_of s) hook ≡ false → cut_hook (bpf_state (bpf_with_hook s hook)) hook ≡ bpf_state s
state_undone s hook fresh = sym (state_cut (bpf_with_hook s hook) hook) ∙ ap (λ (t : List Filter). bpf_state t) (undone s hook (is_new s hook fresh))

-- the hooks stay, and what the node keeps is this
pub state_kept : (s now after : List Filter) → hooks_of now ≡ hooks_of s → now ≡ after → bpf_state now ≡ with_hooks after (hooks_of s)
state_kept s now after same is = ap (with_hooks now) same ∙ ap (λ (t : List Filter). with_hooks t (hooks_of s)) is
