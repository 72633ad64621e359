-- No seat is known to two views, after each kind of step.
use Rattle.std.proofs.Common.{◌≡◌, ◌≢◌, ℕ, ◌+◌, ◌≤◌, ◌⊎◌, List, [], ◌∷◌, ◌++◌, map, length, set, refl, sym, ap, ◌∙◌, subst, inl, inr, ⊎_elim, arith}
use Rattle.std.specs.Prelude.{Contains}
use Rattle.std.proofs.lemmas.List.Elements.{Contains-append_cases}
use mathlib.Core.Option.{some}
use lib.ListN.{get_elem?}
use Rattle.crossbeam_queue.proofs.Lists.{at_set}
use Rattle.ng_turn.specs.declared.rule.View.{View}
use Rattle.ng_turn.specs.declared.rule.View.TheVariants.{Stock, Waits}
use Rattle.ng_turn.specs.Rule.{Knows, KnowsSeat, IsApart, spent_view}
use Rattle.ng_turn.proofs.Lists.{at_push, at_only, contains_none, contains_only, contains_map}

module _ {T D : Type 0} (desk : T → ℕ → D) where
  -- a view of the next seat of the stock
  abbrev pub first_of_stock : T → ℕ → View T D
  first_of_stock value next = Waits ((next, desk value next) ∷ [])

  pub knows_dealt : (value : T) (next seat : ℕ) (d : D) → Knows desk (first_of_stock value next) seat d
      → (next ≡ seat) × (desk value next ≡ d)
  knows_dealt value next seat d known =
      let same = contains_only (next, desk value next) (seat, d) known in
      (ap (λ (k : ℕ × D). k.0) same, ap (λ (k : ℕ × D). k.1) same)

  pub knows_popped : (value : T) (desks : List (ℕ × D)) (seat : ℕ) → Contains (map (λ known. known.0) desks) seat
      → (d : D) × Contains {X = ℕ × D} desks (seat, d)
  knows_popped value desks seat within =
      let from = contains_map (λ (known : ℕ × D). known.0) desks seat within in
      (from.0.1, subst (λ s. Contains {X = ℕ × D} desks (s, from.0.1)) from.2 from.1)

  pub knows_pushed : (value : T) (seats : List ℕ) (seat : ℕ) (d : D)
      → Contains {X = ℕ × D} (map (λ s. (s, desk value s)) seats) (seat, d)
      → Contains seats seat × (desk value seat ≡ d)
  knows_pushed value seats seat d within =
      let from = contains_map (λ (s : ℕ). (s, desk value s)) seats (seat, d) within in
      let same : from.0 ≡ seat = ap (λ (k : ℕ × D). k.0) from.2 in
      (subst (Contains seats) same from.1, ap (desk value) (sym same) ∙ ap (λ (k : ℕ × D). k.1) from.2)

  -- a view that knows none but the seats of the one before it
  pub apart_set : (views : List (View T D)) (ticket : ℕ) (v w : View T D) → get_elem? views ticket ≡ some v
      → ((seat : ℕ) (d : D) → Knows desk w seat d → (e : D) × Knows desk v seat e) → IsApart desk views → IsApart desk (set views ticket w)
  apart_set views ticket v w at fewer apart i j seat first second = apart i j seat (before i first) (before j second)
    where
      before : (k : ℕ) → KnowsSeat desk (set views ticket w) k seat → KnowsSeat desk views k seat
      before k known = ⊎_elim
          (λ (same : (k ≡ ticket) × (w ≡ known.0)).
          let old = fewer seat known.1 (subst (λ u. Knows desk u seat known.1) (sym same.1) known.3) in
          (v, old.0, ap (λ n. get_elem? views n) same.0 ∙ at, old.1))
          (λ (other : (k ≢ ticket) × (get_elem? views k ≡ some known.0)). (known.0, known.1, other.1, known.3))
          (at_set views ticket k w known.0 known.2)

  -- a seat of the stock goes to a new view
  module _ (views : List (View T D)) (ticket : ℕ) (value : T) (next : ℕ) (at : get_elem? views ticket ≡ some (Stock value next))
      (apart : IsApart desk views) where
    abbrev left : List (View T D)
    left = set views ticket (Stock value (next + 1))

    -- a view that knew the seat before; where it is the stock's, the seat isn't the one that goes
    abbrev IsOld : ℕ → ℕ → Type 0
    IsOld seat k = KnowsSeat desk views k seat × (seat ≡ next → k ≢ ticket)

    abbrev IsNew : ℕ → ℕ → Type 0
    IsNew seat k = (k ≡ length left) × (seat ≡ next)

    from_stock : (seat k : ℕ) → IsOld seat k → seat ≡ next → k ≡ ticket
    from_stock seat k old is = apart k ticket seat old.0 (Stock value next, desk value seat, at, (omega arith, refl))

    old_of : (seat k : ℕ) (u : View T D) (d : D) → get_elem? left k ≡ some u → Knows desk u seat d → IsOld seat k
    old_of seat k u d there known = ⊎_elim
        (λ (same : (k ≡ ticket) × (Stock value (next + 1) ≡ u)).
        let above : (next + 1 ≤ seat) × (desk value seat ≡ d) = subst (λ w. Knows desk w seat d) (sym same.1) known in
        let more : next + 1 ≤ seat = above.0 in
        ((Stock value next, d, ap (λ n. get_elem? views n) same.0 ∙ at, (omega arith, above.1)), λ is. absurd (omega arith)))
        (λ (other : (k ≢ ticket) × (get_elem? views k ≡ some u)). ((u, d, other.1, known), λ is. other.0))
        (at_set views ticket k (Stock value (next + 1)) u there)

    old_or_new : (seat k : ℕ) → KnowsSeat desk (left ++ first_of_stock value next ∷ []) k seat → IsOld seat k ⊎ IsNew seat k
    old_or_new seat k known = ⊎_elim
        (λ (there : get_elem? left k ≡ some known.0). inl (old_of seat k known.0 known.1 there known.3))
        (λ (last : (k ≡ length left) × (first_of_stock value next ≡ known.0)).
        inr (last.0, sym (knows_dealt value next seat known.1 (subst (λ w. Knows desk w seat known.1) (sym last.1) known.3)).0))
        (at_push left (first_of_stock value next) known.0 k known.2)

    pub apart_deal : IsApart desk (left ++ first_of_stock value next ∷ [])
    apart_deal i j seat first second = ⊎_elim
        (λ (a : IsOld seat i). ⊎_elim
        (λ (b : IsOld seat j). apart i j seat a.0 b.0)
        (λ (b : IsNew seat j). absurd (a.1 b.1 (from_stock seat i a b.1)))
        (old_or_new seat j second))
        (λ (a : IsNew seat i). ⊎_elim
        (λ (b : IsOld seat j). absurd (b.1 a.1 (from_stock seat j b a.1)))
        (λ (b : IsNew seat j). a.0 ∙ sym b.0)
        (old_or_new seat j second))
        (old_or_new seat i first)

  -- the seats of the view `other` go to the view `ticket`
  module _ (views : List (View T D)) (ticket other : ℕ) (desks others : List (ℕ × D)) (at : get_elem? views ticket ≡ some (Waits desks))
      (at' : get_elem? views other ≡ some (Waits others)) (apart : IsApart desk views) where
    abbrev joined : List (View T D)
    joined = set views ticket (Waits (desks ++ others))

    -- the view knew the seat before, or gets it from the other
    abbrev Had : ℕ → ℕ → Type 0
    Had seat k = KnowsSeat desk views k seat ⊎ ((k ≡ ticket) × KnowsSeat desk views other seat)

    had : (seat k : ℕ) (u : View T D) (d : D) → get_elem? joined k ≡ some u → Knows desk u seat d → Had seat k
    had seat k u d there known = ⊎_elim
        (λ (same : (k ≡ ticket) × (Waits (desks ++ others) ≡ u)).
        let within : Contains {X = ℕ × D} (desks ++ others) (seat, d) = subst (λ w. Knows desk w seat d) (sym same.1) known in
        ⊎_elim
        (λ (mine : Contains {X = ℕ × D} desks (seat, d)). inl (Waits desks, d, ap (λ n. get_elem? views n) same.0 ∙ at, mine))
        (λ (theirs : Contains {X = ℕ × D} others (seat, d)). inr (same.0, (Waits others, d, at', theirs)))
        (Contains-append_cases desks others (seat, d) within))
        (λ (old : (k ≢ ticket) × (get_elem? views k ≡ some u)). inl (u, d, old.1, known))
        (at_set views ticket k (Waits (desks ++ others)) u there)

    had_elsewhere : (seat k : ℕ) → KnowsSeat desk (set joined other spent_view) k seat → (k ≢ other) × Had seat k
    had_elsewhere seat k known = ⊎_elim
        (λ (same : (k ≡ other) × (spent_view ≡ known.0)).
        let none : Contains {X = ℕ × D} [] (seat, known.1) =
        subst (λ w. Knows desk w seat known.1) (sym same.1) known.3 in absurd (contains_none (seat, known.1) none))
        (λ (old : (k ≢ other) × (get_elem? joined k ≡ some known.0)). (old.0, had seat k known.0 known.1 old.1 known.3))
        (at_set joined other k spent_view known.0 known.2)

    pub apart_gather : IsApart desk (set joined other spent_view)
    apart_gather i j seat first second =
        let a = had_elsewhere seat i first in let b = had_elsewhere seat j second in ⊎_elim
        (λ (x : KnowsSeat desk views i seat). ⊎_elim
        (λ (y : KnowsSeat desk views j seat). apart i j seat x y)
        (λ (y : (j ≡ ticket) × KnowsSeat desk views other seat). absurd (a.0 (apart i other seat x y.1))) b.1)
        (λ (x : (i ≡ ticket) × KnowsSeat desk views other seat). ⊎_elim
        (λ (y : KnowsSeat desk views j seat). absurd (b.0 (apart j other seat y x.1)))
        (λ (y : (j ≡ ticket) × KnowsSeat desk views other seat). x.0 ∙ sym y.0) b.1) a.1

  -- one view alone
  pub apart_only : (v : View T D) → IsApart desk (v ∷ [])
  apart_only v i j seat first second = (at_only v first.0 i first.2).0 ∙ sym (at_only v second.0 j second.2).0
