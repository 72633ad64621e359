-- The hooks of a box are cut one after another, until it has none.
use Rattle.std.proofs.Common.{◌≡◌, ℕ, ◌+◌, ◌<◌, Bool, true, cond, not, Option, None, List, [], ◌∷◌, length, map, get_or, sym, ap, subst, ◌∙◌}
use Rattle.std.specs.Prelude.{◌||◌, drop}
use Rattle.std.proofs.lemmas.List.{drop_more}
use Rattle.ng_base.specs.Names.{has_name, without_name}
use Rattle.ng_base.specs.declared.kind.Kind.{Kind}
use Rattle.ng_machine.specs.declared.hook.Hook.{Hook}
use Rattle.ng_machine.specs.declared.plan.Plan.{Plan}
use Rattle.ng_machine.specs.State.{State, cut_hook, kept_without_hooks, kind_of}
use Rattle.ng_machine.proofs.Owed.{cut_all_kind}
use Rattle.ng_topology.specs.hooks.Hooks.{NamesDiffer}
use Rattle.ng_topology.specs.NodeEntry.{IsConsistent, without_all}
use Rattle.ng_topology.proofs.hooks.HookLemmas.{lacks_filter, own_name}
use Rattle.ng_topology.proofs.NodeLemmas.{names_filter}

-- the box has the rest of the hooks, and comes to the same once those are cut
pub record AfterCut (was now : State) (hooks : List Hook) : Type 0 where
  pub names : map (λ h. h.name) hooks ≡ now.hooks
  pub differ : NamesDiffer hooks
  pub same : without_all now ≡ without_all was

has_first : (was : State) (hook : Hook) (hooks : List Hook) → map (λ h. h.name) (hook ∷ hooks) ≡ was.hooks → has_name was.hooks hook.name ≡ true
has_first was hook hooks names =
    ap (λ (l : List (List ℕ)). has_name l hook.name) (sym names) ∙ ap (λ (b : Bool). b || has_name (map (λ h. h.name) hooks) hook.name) (own_name hook.name)

-- the names after the first, which no other has
names_after : (hook : Hook) (hooks : List Hook) → NamesDiffer (hook ∷ hooks) → without_name (map (λ h. h.name) (hook ∷ hooks)) hook.name ≡ map (λ h. h.name) hooks
names_after hook hooks differ =
    let rest = without_name (map (λ h. h.name) hooks) hook.name in
    ap (λ (b : Bool). cond (not b) (hook.name ∷ rest) rest) (own_name hook.name) ∙ sym (names_filter hook.name hooks) ∙ ap (map (λ h. h.name)) (lacks_filter hook.name hooks differ.0)

cut_first : (was now : State) (hook : Hook) (hooks : List Hook) → NamesDiffer (hook ∷ hooks) → map (λ h. h.name) (hook ∷ hooks) ≡ was.hooks → now ≡ cut_hook was hook.name → AfterCut was now hooks
cut_first was now hook hooks differ names is =
    let left : map (λ h. h.name) hooks ≡ now.hooks =
    sym (names_after hook hooks differ) ∙ ap (λ (l : List (List ℕ)). without_name l hook.name) names ∙ sym (ap (λ (s : State). s.hooks) is) in
    record {
      names = left;
      differ = differ.1;
      same = ap (λ (l : List (List ℕ)). record { hooks = []; kept = kept_without_hooks now.kept l }) (sym left)
          ∙ ap (λ (s : State). record { hooks = []; kept = kept_without_hooks s.kept (map (λ h. h.name) hooks) }) is
          ∙ ap (λ (l : List (List ℕ)). record { hooks = []; kept = kept_without_hooks was.kept l }) names;
    }

-- the rest of a list from a place on, by what stands there
rest_of : (hooks : List Hook) (i : ℕ) (hook : Hook) → i < length hooks → hook ≡ get_or hooks i hook → drop i hooks ≡ hook ∷ drop (i + 1) hooks
rest_of hooks i hook lt is = drop_more hooks i hook lt ∙ ap (λ (h : Hook). h ∷ drop (i + 1) hooks) (sym is)

pub has_next : (was : State) (hooks : List Hook) (i : ℕ) (hook : Hook) → i < length hooks → hook ≡ get_or hooks i hook → map (λ h. h.name) (drop i hooks) ≡ was.hooks → has_name was.hooks hook.name ≡ true
has_next was hooks i hook lt is names = has_first was hook (drop (i + 1) hooks) (ap (map (λ h. h.name)) (sym (rest_of hooks i hook lt is)) ∙ names)

pub cut_next : (was now : State) (hooks : List Hook) (i : ℕ) (hook : Hook) → i < length hooks → hook ≡ get_or hooks i hook → NamesDiffer (drop i hooks) → map (λ h. h.name) (drop i hooks) ≡ was.hooks
    → now ≡ cut_hook was hook.name → AfterCut was now (drop (i + 1) hooks)
cut_next was now hooks i hook lt is differ names cut =
    let e = rest_of hooks i hook lt is in cut_first was now hook (drop (i + 1) hooks) (subst NamesDiffer e differ) (ap (map (λ h. h.name)) (sym e) ∙ names) cut

pub consistent_cleared : (kind : Kind) (was now : State) (hooks after : List Hook) (plan : Option Plan) → IsConsistent kind was hooks true plan → now ≡ without_all was → after ≡ [] → IsConsistent kind now after true None
consistent_cleared kind was now hooks after plan consistent is none = record {
  kind = ap kind_of is ∙ cut_all_kind was.kept was.hooks ∙ consistent.kind;
  hooks = ap (map (λ h. h.name)) none ∙ sym (ap (λ (s : State). s.hooks) is);
  planned = tt;
  lent = λ away. absurd (cc away);
}
