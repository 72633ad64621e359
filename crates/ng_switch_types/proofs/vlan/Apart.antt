-- Filters of different hooks, and the number of each hook's filter.
use Rattle.std.proofs.Common.{◌≡◌, ◌≤◌, ℕ, ◌+◌, Bool, true, false, not, nat_lt, if◌then◌else◌, List, [], ◌∷◌, insert, Option, Some, None, is_some, bytes_eq, refl, sym, ap, ◌∙◌, subst, inl, inr, arith, true≢false}
use Rattle.std.specs.Option.{option_map}
use Rattle.std.proofs.lemmas.Bool.{cases_Bool}
use Rattle.ng_base.proofs.NameLemmas.{differs_back, is_same}
use Rattle.ng_plan.proofs.lookup.Apart.{apart_left}
use Rattle.ng_plan.proofs.lookup.HookNumbers.{numbers_left}
use Rattle.ng_plan.specs.lookup.Filters.{AreApart, IsByNumber}
use Rattle.ng_plan.specs.lookup.NameMap.{IsSame, LeavesOut, Map, PutsUnder}
use Rattle.ng_machine.specs.declared.plan.VlanWay.{VlanWay}
use Rattle.ng_machine.specs.kinds.Vlan.{filter_of_hook, is_filter_of, put_filter, without_filters_of}
use Rattle.ng_switch_types.specs.vlan.Filters.{AreKept, IsFree, IsInOrder}
use Rattle.ng_switch_types.proofs.vlan.InOrder.{inserted, sifted}
use Rattle.ng_switch_types.proofs.vlan.Searching.{ascends_far}

-- the list of filters as it is looked up
pub ascending : (filters : List VlanWay) → IsInOrder 0 filters → IsByNumber filters
ascending filters up k d low = ascends_far 0 filters k (k + 1) d up (omega arith) low

-- ---- a filter that is taken out

pub kept_left : (filters : List VlanWay) (numbers fewer : Map ℕ) (hook : List ℕ) → AreKept filters numbers → LeavesOut numbers hook fewer
    → AreKept (without_filters_of hook filters) fewer
kept_left filters numbers fewer hook kept left = record {
  in_order = sifted (λ f. not (is_filter_of hook f)) 0 filters kept.in_order;
  apart = apart_left filters hook kept.apart;
  numbered = numbers_left filters numbers fewer hook kept.numbered left;
}

-- ---- a filter that is put in

found_put : (f : VlanWay) (filters : List VlanWay) (other : List ℕ) → filter_of_hook f.hook filters ≡ None
    → filter_of_hook other (put_filter f filters) ≡ (if bytes_eq f.hook other then Some f else filter_of_hook other filters)
found_put f [] other alone = refl
found_put f (g ∷ filters) other alone = elim (cases_Bool (nat_lt f.vlan g.vlan)) [
  | inl before ↦ rw before refl
  | inr after ↦ rw after (elim (cases_Bool (bytes_eq g.hook f.hook)) [
    | inl is ↦ let contrary : Some g ≡ None = rw is at alone in absurd (cc contrary)
    | inr apart ↦ elim (cases_Bool (bytes_eq g.hook other)) [
      | inl same ↦
          let differs : bytes_eq f.hook other ≡ false
          = ap (λ (n : List ℕ). bytes_eq f.hook n) (sym (is_same g.hook other same)) ∙ differs_back g.hook f.hook apart in
          rw (same, differs) refl
      | inr differs ↦ rw differs (found_put f filters other (rw apart at alone))
    ]
  ])
]

apart_put : (f : VlanWay) (filters : List VlanWay) → filter_of_hook f.hook filters ≡ None → AreApart filters → AreApart (put_filter f filters)
apart_put f [] alone apart = (refl, tt)
apart_put f (g ∷ filters) alone apart = elim (cases_Bool (nat_lt f.vlan g.vlan)) [
  | inl before ↦ rw before (alone, apart)
  | inr after ↦ rw after (elim (cases_Bool (bytes_eq g.hook f.hook)) [
    | inl is ↦ let contrary : Some g ≡ None = rw is at alone in absurd (cc contrary)
    | inr other ↦
        let rest : filter_of_hook f.hook filters ≡ None = rw other at alone in
        let differs : bytes_eq f.hook g.hook ≡ false = differs_back g.hook f.hook other in
        let still : filter_of_hook g.hook (put_filter f filters) ≡ None
        = found_put f filters g.hook rest ∙ ap (λ (b : Bool). if b then Some f else filter_of_hook g.hook filters) differs ∙ apart.0 in
        (still, apart_put f filters rest apart.1)
  ])
]

number_of_put : (new : Bool) (f : VlanWay) (o : Option VlanWay)
    → (if new then Some f.vlan else option_map (λ (g : VlanWay). g.vlan) o) ≡ option_map (λ (g : VlanWay). g.vlan) (if new then Some f else o)
number_of_put true f o = refl
number_of_put false f o = refl

-- the map has room for the number first, and then the number is put
pub kept_put : (f : VlanWay) (filters : List VlanWay) (place : ℕ) (numbers roomy more : Map ℕ) → AreKept filters numbers → IsFree f filters place → f.vlan ≤ 4095
    → filter_of_hook f.hook filters ≡ None → IsSame numbers roomy → PutsUnder roomy f.hook f.vlan more → AreKept (insert filters place f) more
kept_put f filters place numbers roomy more kept free most alone same puts = record {
  in_order = inserted f filters place free most kept.in_order;
  apart = subst AreApart free.put (apart_put f filters alone kept.apart);
  numbered = λ other.
      puts other
      ∙ ap (λ (o : Option ℕ). if bytes_eq f.hook other then Some f.vlan else o) (same other ∙ kept.numbered other)
      ∙ number_of_put (bytes_eq f.hook other) f (filter_of_hook other filters)
      ∙ ap (option_map (λ (g : VlanWay). g.vlan)) (sym (found_put f filters other alone) ∙ ap (filter_of_hook other) free.put);
}

pub is_absent : {A : Type 0} (o : Option A) → is_some o ≡ false → o ≡ None
is_absent None e = refl
is_absent (Some x) e = absurd (true≢false e)
