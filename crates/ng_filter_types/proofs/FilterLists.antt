-- Filters stay in order of their ethertypes, and at most 4,096.
use Rattle.std.proofs.Common.{◌≡◌, ℕ, zero, suc, ◌<◌, ◌≤◌, nat_lt, nat_le, Bool, true, false, List, [], ◌∷◌, length, refl, ap, inl, inr, arith}
use Rattle.std.specs.List.{filter, insert}
use Rattle.std.proofs.lemmas.Bool.{cases_Bool}
use Rattle.std.proofs.lemmas.Bool.Decides.{nat_tests}
use Rattle.std.proofs.lemmas.List.Edits.{length-insert}
use Rattle.ng_machine.specs.declared.plan.EtfWay.{EtfWay}
use Rattle.ng_machine.specs.kinds.Etf.{most_filters, put_etf}
use Rattle.ng_sorted.specs.Order.{IsGap}
use Rattle.ng_sorted.proofs.InOrder.{next_gap, ordered_filter, ordered_insert}
use Rattle.ng_filter_types.specs.Filters.{AreFilters, IsFree, number_of}

put_gap : (filters : List EtfWay) (k : ℕ) (f : EtfWay) → IsGap number_of filters f.ethertype k → put_etf f filters ≡ insert filters k f
put_gap [] zero f at = refl
put_gap [] (suc k) f at = absurd (omega (arith, at.in_range))
put_gap (g ∷ filters) zero f at =
    let more : f.ethertype < g.ethertype = at.greater 0 g (omega arith) (omega arith) in
    let less : nat_lt f.ethertype g.ethertype ≡ true = grind (arith, nat_tests) in
    rw less refl
put_gap (g ∷ filters) (suc k) f at =
    let more : g.ethertype < f.ethertype = at.lesser 0 g (omega arith) in
    let less : nat_lt f.ethertype g.ethertype ≡ false = grind (arith, nat_tests) in
    rw less (ap (λ fs. g ∷ fs) (put_gap filters k f (next_gap number_of g filters f.ethertype k at)))

-- a filter goes to its free place
pub put_free : (filters : List EtfWay) (k : ℕ) (f : EtfWay) → IsFree filters f.ethertype k → put_etf f filters ≡ insert filters k f
put_free filters k f free = put_gap filters k f free.gap

roomy : (n : ℕ) → nat_le most_filters n ≡ false → n < 4096
roomy n e = grind (arith, nat_tests, e)

pub inserted : (filters : List EtfWay) (k : ℕ) (f : EtfWay) → IsFree filters f.ethertype k → nat_le most_filters (length filters) ≡ false → AreFilters filters → AreFilters (insert filters k f)
inserted filters k f free room are = record {
  ordered = ordered_insert number_of filters k f are.ordered free.gap;
  few = omega (arith, length-insert filters k f free.gap.in_range, roomy (length filters) room);
}

pub few : (filters : List EtfWay) → AreFilters filters → length filters ≤ 4096
few filters are = are.few

fewer : (test : EtfWay → Bool) (filters : List EtfWay) → length (filter test filters) ≤ length filters
fewer test [] = omega arith
fewer test (f ∷ filters) = elim (cases_Bool (test f)) [ inl is ↦ rw is (omega (arith, fewer test filters)) | inr other ↦ rw other (omega (arith, fewer test filters)) ]

pub sifted : (test : EtfWay → Bool) (filters : List EtfWay) → AreFilters filters → AreFilters (filter test filters)
sifted test filters are = record {
  ordered = ordered_filter number_of test filters are.ordered;
  few = omega (arith, fewer test filters, are.few);
}
