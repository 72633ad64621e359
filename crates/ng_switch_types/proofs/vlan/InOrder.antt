-- Filters stay in order.
use Rattle.std.proofs.Common.{◌≡◌, ◌≤◌, ℕ, suc, ◌+◌, ◌==◌, Bool, true, false, nat_lt, List, [], ◌∷◌, insert, length, filter, is_some, ap, subst, arith, inl, inr, true≢false}
use Rattle.std.proofs.lemmas.Bool.{cases_Bool, cases_lt}
use Rattle.std.proofs.lemmas.Bool.Decides.{nat_tests}
use Rattle.ng_machine.specs.declared.plan.VlanWay.{VlanWay}
use Rattle.ng_machine.specs.kinds.Vlan.{filter_of_number, put_filter}
use Rattle.ng_switch_types.specs.vlan.Filters.{IsFree, IsInOrder}

looser : (low lower : ℕ) (filters : List VlanWay) → lower ≤ low → IsInOrder low filters → IsInOrder lower filters
looser low lower [] below up = tt
looser low lower (f ∷ filters) below up = let first : lower ≤ f.vlan = omega (arith, below, up.0) in (first, up.1, up.2)

-- what passes a test
pub sifted : (test : VlanWay → Bool) (low : ℕ) (filters : List VlanWay) → IsInOrder low filters → IsInOrder low (filter test filters)
sifted test low [] up = tt
sifted test low (f ∷ filters) up =
    let rest : IsInOrder (suc f.vlan) (filter test filters) = sifted test (suc f.vlan) filters up.2 in
    let wide : low ≤ suc f.vlan = omega (arith, up.0) in
    elim (cases_Bool (test f)) [
      | inl is ↦ rw is (up.0, up.1, rest)
      | inr other ↦ rw other (looser (suc f.vlan) low (filter test filters) wide rest)
    ]

-- no more than there are numbers
pub few_from : (low : ℕ) (filters : List VlanWay) → low ≤ 4096 → IsInOrder low filters → length filters + low ≤ 4096
few_from low [] below up = omega (arith, below)
few_from low (f ∷ filters) below up =
    let next : suc f.vlan ≤ 4096 = omega (arith, up.1) in
    omega (arith, up.0, few_from (suc f.vlan) filters next up.2)

pub few : (filters : List VlanWay) → IsInOrder 0 filters → length filters ≤ 4096
few filters up = omega (arith, few_from 0 filters (omega arith) up)

-- a filter of a number that no other has
put : (f : VlanWay) (low : ℕ) (filters : List VlanWay) → low ≤ f.vlan → f.vlan ≤ 4095 → is_some (filter_of_number f.vlan filters) ≡ false → IsInOrder low filters → IsInOrder low (put_filter f filters)
put f low [] least most fresh up = (least, most, tt)
put f low (g ∷ filters) least most fresh up = elim (cases_lt f.vlan g.vlan) [
  | inl before ↦
      let lt : nat_lt f.vlan g.vlan ≡ true = grind (arith, nat_tests, before) in
      let next : suc f.vlan ≤ g.vlan = omega (arith, before) in
      rw lt (least, most, (next, up.1, up.2))
  | inr after ↦
      let ge : nat_lt f.vlan g.vlan ≡ false = grind (arith, nat_tests, after) in
      rw ge (
        up.0,
        up.1,
        elim (cases_Bool (g.vlan == f.vlan)) [
          | inl same ↦ absurd (true≢false (rw same at fresh))
          | inr other ↦
              let apart : suc g.vlan ≤ f.vlan = grind (arith, nat_tests, after, other) in
              put f (suc g.vlan) filters apart most (rw other at fresh) up.2
        ],
      )
]

pub inserted : (f : VlanWay) (filters : List VlanWay) (place : ℕ) → IsFree f filters place → f.vlan ≤ 4095 → IsInOrder 0 filters → IsInOrder 0 (insert filters place f)
inserted f filters place free most up = subst (λ (fs : List VlanWay). IsInOrder 0 fs) free.put (put f 0 filters (omega arith) most (ap is_some free.none) up)
