-- Passes in a list: those that `new` makes one by one, and those that `end` takes one by one from the end.
use Rattle.std.proofs.Common.{◌≡◌, ◌⊎◌, inl, inr, ℕ, List, [], ◌∷◌, ◌++◌, length, sym, refl, ap, ◌∙◌, ⊎_elim, arith}
use Rattle.std.specs.Prelude.{Contains}
use Rattle.std.proofs.lemmas.List.Elements.{Contains-append_left, Contains-append_right}
use mathlib.Core.Option.{some, some-ne-none}
use lib.ListN.{get_elem?}
use Rattle.crossbeam_queue.specs.Passes.{view, IsPassOf}
use Rattle.crossbeam_queue.proofs.Lists.{at_last, at_longer}
use Rattle.ng_turn.specs.declared.pass.Pass.{Pass}
use Rattle.ng_turn.specs.declared.rule.View.{View}
use Rattle.ng_turn.specs.declared.rule.View.TheVariants.{Waits}
use Rattle.ng_turn.specs.Rule.{joined_view}
use Rattle.ng_turn.specs.Words.{Place, IsPassAt, known_desk, desk_of, seat_of, AreFirst}
use Rattle.ng_turn.proofs.Lists.{each_push, contains_here}

-- P is so of each element, with its place
abbrev pub EachAt : {A : Type 0} → (ℕ → A → Type 0) → List A → Type 0
EachAt {A} P xs = (k : ℕ) (x : A) → get_elem? xs k ≡ some x → P k x

module _ {A : Type 0} (P : ℕ → A → Type 0) (xs less : List A) (last : A) (is : xs ≡ less ++ last ∷ []) where
  pub each_last : EachAt P xs → P (length less) last
  each_last each = each (length less) last (ap (λ l. get_elem? l (length less)) is ∙ at_last less last (length less) refl)

  pub each_less : EachAt P xs → EachAt P less
  each_less each k x at = each k x (ap (λ l. get_elem? l k) is ∙ at_longer less (last ∷ []) k x at)

  pub each_more : EachAt P less → P (length less) last → EachAt P xs
  each_more each here k x at = each_push P less last here each k x (ap (λ l. get_elem? l k) (sym is) ∙ at)

pub none_at : {A : Type 0} (xs : List A) (k : ℕ) (x : A) → length xs ≡ 0 → get_elem? xs k ≡ some x → ⊥
none_at [] k x none at = some-ne-none x (sym at)
none_at (y ∷ ys) k x none at = omega arith

module _ {T D : Type 0} (blank : D) where
  -- a pass whose view knows one seat and its desk
  pub pass_made : (place : Place T D) (pass : Pass T D) (d : D) → IsPassOf place pass.ticket
      → view pass.ticket ≡ Waits ((pass.seat, d) ∷ []) → IsPassAt blank place pass × (desk_of blank pass ≡ d)
  pass_made place pass d own is =
      let same : desk_of blank pass ≡ d =
      ap (known_desk blank) is in ((own, is ∙ ap (λ (e : D). Waits ((pass.seat, e) ∷ [])) (sym same)), same)

  -- one more seat got its pass
  pub first_more : (desk : T → ℕ → D) (place : Place T D) (value : T) (passes more : List (Pass T D)) (pass : Pass T D)
      → more ≡ passes ++ pass ∷ [] → seat_of pass ≡ length passes
      → IsPassOf place pass.ticket → view pass.ticket ≡ Waits ((pass.seat, desk value pass.seat) ∷ [])
      → AreFirst blank desk place value passes → AreFirst blank desk place value more
  first_more desk place value passes more pass is seat own known first =
      let made = pass_made place pass (desk value pass.seat) own known in
      each_more (λ k p. IsPassAt blank place p × (seat_of p ≡ k) × (desk_of blank p ≡ desk value k)) more passes pass is first
      (made.0, seat, made.1 ∙ ap (desk value) seat)

  -- the pass is left in the list, or its desk is among these
  abbrev LeftOr : List (Pass T D) → List (ℕ × D) → ℕ → Pass T D → Type 0
  LeftOr left desks k pass = (get_elem? left k ≡ some pass) ⊎ Contains desks (pass.seat, desk_of blank pass)

  -- the view waits, and each pass is left in the list or the view knows its desk
  pub record Gathered (all left : List (Pass T D)) (v : View T D) : Type 0 where
    pub desks : List (ℕ × D)
    pub waits : v ≡ Waits desks
    pub each : EachAt (LeftOr left desks) all

  -- a pass of the list is the last or stands before it
  last_or_left : (left less : List (Pass T D)) (last : Pass T D) (desks : List (ℕ × D)) → left ≡ less ++ last ∷ []
      → Contains desks (last.seat, desk_of blank last) → EachAt (LeftOr less desks) left
  last_or_left left less last desks is known = each_more (LeftOr less desks) left less last is (λ k p at. inl at) (inr known)

  pub gathered_first : (all left : List (Pass T D)) (pass : Pass T D) (v : View T D) → all ≡ left ++ pass ∷ []
      → v ≡ Waits ((pass.seat, desk_of blank pass) ∷ []) → Gathered all left v
  gathered_first all left pass v is known = let mine : ℕ × D = (pass.seat, desk_of blank pass) in
      record { desks = mine ∷ []; waits = known; each = last_or_left all left pass (mine ∷ []) is (contains_here mine []) }

  pub gathered_more : (all left less : List (Pass T D)) (pass : Pass T D) (v w : View T D)
      → left ≡ less ++ pass ∷ [] → view pass.ticket ≡ Waits ((pass.seat, desk_of blank pass) ∷ [])
      → w ≡ joined_view v (view pass.ticket) → Gathered all left v → Gathered all less w
  gathered_more all left less pass v w is known joined was =
      let mine : ℕ × D = (pass.seat, desk_of blank pass) in let desks = was.desks ++ mine ∷ [] in record {
        desks = desks;
        waits = joined ∙ ap (λ (y : View T D × View T D). joined_view y.0 y.1) (λ k. (was.waits k, known k));
        each = λ k p at. ⊎_elim
            (λ (old : get_elem? left k ≡ some p). last_or_left left less pass desks is
            (Contains-append_right was.desks (mine ∷ []) mine (contains_here mine [])) k p old)
            (λ (had : Contains was.desks (p.seat, desk_of blank p)). inr (Contains-append_left was.desks (mine ∷ []) (p.seat, desk_of blank p) had))
            (was.each k p at);
      }
