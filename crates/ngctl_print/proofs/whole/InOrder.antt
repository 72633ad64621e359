-- Commands that have the numbers from 1 on stand at the places of their numbers.
use Rattle.std.proofs.Common.{◌≡◌, ◌↔◌, ltb, Bor, ℕ, suc, ◌+◌, ◌-◌, ◌<◌, ◌≤◌, ◌==◌, true, false, List, [], ◌∷◌, length, drop, get_or, refl, ◌∙◌, subst, sym, inl, inr, arith}
use Rattle.std.specs.Prelude.{Option, Some, None, IfSome, slice_get}
use Rattle.std.specs.Option.{is_some, option_copied}
use Rattle.std.proofs.lemmas.Bool.{cases_eq, cases_lt, eq-eqb, ne_eqb, lt-ltb, ltb-true}
use Rattle.std.proofs.lemmas.Option.{slice_get_past, slice_get_read}
use Rattle.std.proofs.lemmas.List.{drop_more}
use Rattle.ng_machine.specs.declared.command.Command.{Command}
use Rattle.ngctl_print.specs.whole.Commands.{command_numbered, AreFrom}

-- no command has a lower number
pub none_below : (n k : ℕ) (commands : List Command) → k < n → AreFrom n commands → command_numbered commands k ≡ None
none_below n k [] lt all = refl
none_below n k (command ∷ others) lt all =
    let other : (command.number == k) ≡ false = ne_eqb command.number k (λ e. omega (arith, e, all.0)) in
    rw other (none_below (n + 1) k others (omega arith) all.1)

-- a number is found at its place
pub at_place : (n k : ℕ) (commands : List Command) → n ≤ k → AreFrom n commands → command_numbered commands k ≡ slice_get commands (k - n)
at_place n k [] le all = refl
at_place n k (command ∷ others) le all = elim (cases_eq n k) [
  | inl e ↦
      let here : (command.number == k) ≡ true = eq-eqb command.number k (all.0 ∙ e) in
      let place : k - n ≡ 0 = omega arith in
      rw (here, place) refl
  | inr other ↦
      let not_here : (command.number == k) ≡ false = ne_eqb command.number k (λ e. other (sym all.0 ∙ e)) in
      let place : k - n ≡ suc (k - (n + 1)) = omega arith in
      rw (not_here, place) (at_place (n + 1) k others (omega arith) all.1)
]

-- one command more
pub step : (n i : ℕ) (commands : List Command) (d : Command) → i < length commands
    → AreFrom n (drop i commands) ↔ ((get_or commands i d).number ≡ n) × AreFrom (n + 1) (drop (i + 1) commands)
step n i commands d inside =
    subst (λ (left : List Command). AreFrom n left ↔ ((get_or commands i d).number ≡ n) × AreFrom (n + 1) (drop (i + 1) commands))
    (sym (drop_more commands i d inside)) (λ p. p, λ p. p)

-- what a slice gives at a place
pub got : (commands : List Command) (i : ℕ) (r : Option (Bor Command)) → is_some r ≡ ltb i (length commands)
    → IfSome r (λ x. x.now ≡ get_or commands i x.now) → option_copied r ≡ slice_get commands i
got commands i None there at = elim (cases_lt i (length commands)) [
  | inl lt ↦ let no = lt-ltb i (length commands) lt in cc
  | inr past ↦ sym (slice_get_past commands i past)
]
got commands i (Some x) there at =
    sym (slice_get_read commands (length commands) i x.now refl (ltb-true i (length commands) (sym there)) at)
