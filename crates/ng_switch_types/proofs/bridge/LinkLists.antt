-- The links of a bridge, as lists.
use Rattle.std.proofs.Common.{◌≡◌, ℕ, zero, suc, List, [], ◌∷◌, set, get_or, map, Option, Some, None, find, refl, ap, ◌∙◌, arith, inl, inr}
use Rattle.std.specs.List.{insert}
use Rattle.std.proofs.lemmas.Bool.{cases_Bool}
use Rattle.std.proofs.lemmas.Bool.Decides.{nat_tests}
use Rattle.ng_machine.specs.kinds.Bridge.{Link, link_hook, link_way, mute_of, put_link, at_link}
use Rattle.std.specs.Str.{bytes_eq}
use Rattle.ng_sorted.specs.Order.{IsInOrder, IsGap, IsPlace}
use Rattle.ng_sorted.proofs.InOrder.{next_gap, change_one, ordered_change}

-- the number by which links are in order
abbrev pub number_of : Link → ℕ
number_of l = l.number

-- a link that is put into its gap
pub put_gap : (links : List Link) (k : ℕ) (x : Link) → IsGap number_of links x.number k → put_link x links ≡ insert links k x
put_gap [] zero x at = refl
put_gap [] (suc k) x at = absurd (omega (arith, at.in_range))
put_gap (l ∷ links) zero x at = grind (arith, nat_tests, at.greater 0 l (omega arith) (omega arith))
put_gap (l ∷ links) (suc k) x at = grind (arith, nat_tests, at.lesser 0 l (omega arith), put_gap links k x (next_gap number_of l links x.number k at))

-- for how long the link that was found by its hook is mute
abbrev pub mute_in : Option Link → ℕ
mute_in None = 0
mute_in (Some l) = l.mute

pub mute_found : (links : List Link) (hook : List ℕ) → mute_of (map link_way links) hook ≡ mute_in (find (λ l. bytes_eq (link_hook l.number) hook) links)
mute_found [] hook = refl
mute_found (l ∷ links) hook = elim (cases_Bool (bytes_eq (link_hook l.number) hook)) [
  | inl is ↦ rw is refl
  | inr other ↦ rw other (mute_found links hook)
]

-- the link of a number, changed
pub changed : (links now : List Link) (a k : ℕ) (f : Link → Link) (old new : Link) → IsPlace number_of links a k → old ≡ get_or links k old → new ≡ f old → links ≡ now → set links k new ≡ at_link a f now
changed links now a k f old new at is made same = rw (made, ← same) (change_one number_of links a k f old at is)

pub changed_order : (links : List Link) (a k : ℕ) (f : Link → Link) (old new : Link) → IsInOrder number_of links → IsPlace number_of links a k → old ≡ get_or links k old → new ≡ f old
    → ((l : Link) → (f l).number ≡ l.number) → IsInOrder number_of (set links k new)
changed_order links a k f old new up at is made keeps = ordered_change number_of links a k new up at (ap number_of made ∙ keeps old ∙ ap number_of is ∙ at.same old)
