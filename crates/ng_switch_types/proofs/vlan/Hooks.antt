-- Filters stay filters of hooks that are there.
use Rattle.std.proofs.Common.{◌≡◌, ℕ, Bool, true, false, if◌then◌else◌, nat_lt, List, [], ◌∷◌, ◌++◌, filter, refl, sym, ap, subst, inl, inr}
use Rattle.std.proofs.lemmas.Bool.{cases_Bool}
use Rattle.ng_base.specs.Names.{has_name, without_name}
use Rattle.ng_base.specs.declared.kind.Kind.TheVariants.{Vlan as OfVlan}
use Rattle.ng_machine.specs.declared.plan.VlanWay.{VlanWay}
use Rattle.ng_machine.specs.Rules.{accepts_hook}
use Rattle.ng_machine.specs.Sound.{IsSound}
use Rattle.ng_machine.specs.State.{KindState, VlanState, State}
use Rattle.ng_machine.specs.kinds.Vlan.{put_filter, without_filters_of}
use Rattle.ng_machine.specs.Words.{Every}
use Rattle.ng_machine.proofs.Undone.{cut_undoes}
use Rattle.ng_machine.proofs.Sounded.{states_stay_sound}

any_name : (hooks : List (List ℕ)) → Every (λ (hook : List ℕ). accepts_hook OfVlan hook ≡ true) hooks
any_name [] = tt
any_name (hook ∷ hooks) = (refl, any_name hooks)

abbrev pub AreOf : List (List ℕ) → List VlanWay → Type 0
AreOf hooks filters = Every (λ (f : VlanWay). has_name hooks f.hook ≡ true) filters

abbrev state_with : List (List ℕ) → List VlanWay → State
state_with hooks filters = record { hooks = hooks; kept = VlanState (record { kind = 0; filters = filters }) }

sound : (hooks : List (List ℕ)) (filters : List VlanWay) → AreOf hooks filters → IsSound (state_with hooks filters)
sound hooks filters kept = record { taken = any_name hooks; kept = kept }

pub made : (hooks : List (List ℕ)) (filters : List VlanWay) (hook : List ℕ) → AreOf hooks filters → AreOf (hooks ++ hook ∷ []) filters
made hooks filters hook kept = (states_stay_sound.made (state_with hooks filters) hook (sound hooks filters kept) refl).kept

pub cut : (hooks : List (List ℕ)) (filters : List VlanWay) (hook : List ℕ) → AreOf hooks filters → AreOf (without_name hooks hook) (without_filters_of hook filters)
cut hooks filters hook kept = (states_stay_sound.cut (state_with hooks filters) hook (sound hooks filters kept)).kept

abbrev filters_in : KindState → List VlanWay
filters_in (VlanState s) = s.filters
filters_in kept = []

-- a hook that isn't there has no filter
pub undone : (hooks : List (List ℕ)) (filters : List VlanWay) (hook : List ℕ) → AreOf hooks filters → has_name hooks hook ≡ false → without_filters_of hook filters ≡ filters
undone hooks filters hook kept no_hook = ap (λ (t : State). filters_in t.kept) (cut_undoes (state_with hooks filters) hook (sound hooks filters kept) refl no_hook)

put : (hooks : List (List ℕ)) (f : VlanWay) (filters : List VlanWay) → has_name hooks f.hook ≡ true → Every (λ (g : VlanWay). has_name hooks g.hook ≡ true) filters → Every (λ (g : VlanWay). has_name hooks g.hook ≡ true) (put_filter f filters)
put hooks f [] there kept = (there, tt)
put hooks f (g ∷ filters) there kept = by (nat_lt f.vlan g.vlan) (put hooks f filters there kept.1)
  where
    by : (b : Bool) → Every (λ (h : VlanWay). has_name hooks h.hook ≡ true) (put_filter f filters) → Every (λ (h : VlanWay). has_name hooks h.hook ≡ true) (if b then f ∷ g ∷ filters else g ∷ put_filter f filters)
    by true rest = (there, (kept.0, kept.1))
    by false rest = (kept.0, rest)

pub sifted : {A : Type 0} (P : A → Type 0) (test : A → Bool) (xs : List A) → Every P xs → Every P (filter test xs)
sifted P test [] kept = tt
sifted P test (x ∷ xs) kept = elim (cases_Bool (test x)) [
  | inl is ↦ rw is (kept.0, sifted P test xs kept.1)
  | inr other ↦ rw other (sifted P test xs kept.1)
]

pub put_kept : (hooks : List (List ℕ)) (f : VlanWay) (filters now : List VlanWay) → now ≡ put_filter f filters → has_name hooks f.hook ≡ true → AreOf hooks filters → AreOf hooks now
put_kept hooks f filters now e there kept = subst (λ (fs : List VlanWay). AreOf hooks fs) (sym e) (put hooks f filters there kept)
