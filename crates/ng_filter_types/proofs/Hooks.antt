-- An etf's filters stay filters of hooks that are there.
use Rattle.std.proofs.Common.{◌≡◌, ℕ, Bool, true, false, not, if◌then◌else◌, nat_lt, List, [], ◌∷◌, ◌++◌, refl, sym, ap, ◌∙◌, subst}
use Rattle.std.specs.List.{filter}
use Rattle.std.specs.Str.{bytes_eq}
use Rattle.ng_base.specs.Names.{has_name, without_name}
use Rattle.ng_base.specs.declared.kind.Kind.TheVariants.{Etf as OfEtf}
use Rattle.ng_machine.specs.declared.plan.EtfWay.{EtfWay}
use Rattle.ng_machine.specs.kinds.Etf.{put_etf}
use Rattle.ng_machine.specs.Rules.{accepts_hook}
use Rattle.ng_machine.specs.Sound.{IsSound}
use Rattle.ng_machine.specs.State.{KindState, EtfState, State}
use Rattle.ng_machine.specs.Words.{Every}
use Rattle.ng_machine.proofs.Undone.{cut_undoes}
use Rattle.ng_machine.proofs.Sounded.{states_stay_sound}

any_name : (hooks : List (List ℕ)) → Every (λ (hook : List ℕ). accepts_hook OfEtf hook ≡ true) hooks
any_name [] = tt
any_name (hook ∷ hooks) = (refl, any_name hooks)

abbrev pub AreOf : List (List ℕ) → List EtfWay → Type 0
AreOf hooks filters = Every (λ (f : EtfWay). has_name hooks f.hook ≡ true) filters

abbrev pub without_filters_of : List ℕ → List EtfWay → List EtfWay
without_filters_of hook filters = filter (λ (f : EtfWay). not (bytes_eq f.hook hook)) filters

abbrev state_with : List (List ℕ) → List EtfWay → State
state_with hooks filters = record { hooks = hooks; kept = EtfState (record { filters = filters; counters = [] }) }

sound : (hooks : List (List ℕ)) (filters : List EtfWay) → AreOf hooks filters → IsSound (state_with hooks filters)
sound hooks filters kept = record { taken = any_name hooks; kept = kept }

pub made : (hooks : List (List ℕ)) (filters : List EtfWay) (hook : List ℕ) → AreOf hooks filters → AreOf (hooks ++ hook ∷ []) filters
made hooks filters hook kept = (states_stay_sound.made (state_with hooks filters) hook (sound hooks filters kept) refl).kept

cut : (hooks : List (List ℕ)) (filters : List EtfWay) (hook : List ℕ) → AreOf hooks filters → AreOf (without_name hooks hook) (without_filters_of hook filters)
cut hooks filters hook kept = (states_stay_sound.cut (state_with hooks filters) hook (sound hooks filters kept)).kept

-- the hooks and the filters that a cut leaves
pub cut_kept : (hooks : List (List ℕ)) (filters : List EtfWay) (hook : List ℕ) (names : List (List ℕ)) (left : List EtfWay)
    → names ≡ without_name hooks hook → left ≡ without_filters_of hook filters → AreOf hooks filters → AreOf names left
cut_kept hooks filters hook names left e f kept = rw (e, f) (cut hooks filters hook kept)

abbrev filters_in : KindState → List EtfWay
filters_in (EtfState s) = s.filters
filters_in kept = []

-- a hook that isn't there has no filter
pub undone : (hooks : List (List ℕ)) (filters : List EtfWay) (hook : List ℕ) → AreOf hooks filters → has_name hooks hook ≡ false → without_filters_of hook filters ≡ filters
undone hooks filters hook kept no_hook = ap (λ (t : State). filters_in t.kept) (cut_undoes (state_with hooks filters) hook (sound hooks filters kept) refl no_hook)

abbrev pub state_of : List (List ℕ) → List EtfWay → List ℕ → State
state_of hooks filters row = record { hooks = hooks; kept = EtfState (record { filters = filters; counters = row }) }

pub same_state : (hooks names : List (List ℕ)) (filters left : List EtfWay) (row : List ℕ) → hooks ≡ names → filters ≡ left → state_of hooks filters row ≡ state_of names left row
same_state hooks names filters left row e f = ap (λ (h : List (List ℕ)). state_of h filters row) e ∙ ap (λ (fs : List EtfWay). state_of names fs row) f

put : (hooks : List (List ℕ)) (f : EtfWay) (filters : List EtfWay) → has_name hooks f.hook ≡ true → AreOf hooks filters → AreOf hooks (put_etf f filters)
put hooks f [] there kept = (there, tt)
put hooks f (g ∷ filters) there kept = by (nat_lt f.ethertype g.ethertype) (put hooks f filters there kept.1)
  where
    by : (b : Bool) → AreOf hooks (put_etf f filters) → AreOf hooks (if b then f ∷ g ∷ filters else g ∷ put_etf f filters)
    by true rest = (there, (kept.0, kept.1))
    by false rest = (kept.0, rest)

pub put_kept : (hooks : List (List ℕ)) (f : EtfWay) (filters now : List EtfWay) → now ≡ put_etf f filters → has_name hooks f.hook ≡ true → AreOf hooks filters → AreOf hooks now
put_kept hooks f filters now e there kept = subst (λ (fs : List EtfWay). AreOf hooks fs) (sym e) (put hooks f filters there kept)
