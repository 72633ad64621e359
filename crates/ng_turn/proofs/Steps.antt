-- Each kind of step keeps the rule of the place.
use Rattle.std.proofs.Common.{◌≡◌, ◌≢◌, ℕ, ◌+◌, ◌≤◌, ◌⊎◌, List, [], ◌∷◌, ◌++◌, map, length, get_or, drop, set, refl, sym, ap, ◌∙◌, subst, inl, inr, ⊎_elim, arith}
use Rattle.std.specs.Prelude.{Contains}
use Rattle.std.proofs.lemmas.Bool.Decides.{eqb_tells}
use Rattle.std.proofs.lemmas.List.Elements.{Contains-append_cases}
use mathlib.Core.Option.{some, some-injective}
use lib.ListN.{get_elem?}
use Rattle.crossbeam_queue.specs.Fifo.{Pushes, Pops, Forks, Merges, Learns}
use Rattle.crossbeam_queue.proofs.Lists.{at_longer, set_else}
use Rattle.ng_turn.specs.declared.rule.View.{View}
use Rattle.ng_turn.specs.declared.rule.View.TheVariants.{Opening, Stock, Waits, Holds}
use Rattle.ng_turn.specs.Rule.{Knows, AgreesWith, IsResting, IsBare, IsUnopened, IsHome, IsAway, IsRuled, after_pop, after_push, spent_view}
use Rattle.ng_turn.proofs.Lists.{at_only, set_there, each_set, each_push, contains_none}
use Rattle.ng_turn.proofs.Views.{first_of_stock, knows_dealt, knows_popped, knows_pushed, apart_set, apart_deal, apart_gather, apart_only}

cons_not_nil : {A : Type 0} (x : A) (xs : List A) → x ∷ xs ≡ [] → ⊥
cons_not_nil x xs same = let none : length (x ∷ xs) ≡ 0 = ap length same in omega arith

-- where the number is another or the same
same_or_not : (a b : ℕ) → (a ≡ b) ⊎ (a ≢ b)
same_or_not a b = ⊎_elim (λ yes. inl yes.1) (λ other. inr other.1) (eqb_tells a b)

module _ {T D : Type 0} (desk : T → ℕ → D) where
  -- the view waits and agrees with the value
  abbrev Fits : T → View T D → Type 0
  Fits value v = IsResting v × AgreesWith desk value v

  -- so does each view but some
  abbrev EachBut : (ℕ → Type 0) → T → List (View T D) → Type 0
  EachBut But value views = (j : ℕ) (u : View T D) → (But j → ⊥) → get_elem? views j ≡ some u → Fits value u

  abbrev Place : List T → List (View T D) → Type 0
  Place items views = IsUnopened items views ⊎ (IsHome desk items views ⊎ IsAway desk items views)

  only_opening : (items : List T) (views : List (View T D)) (ticket : ℕ) (v : View T D)
      → get_elem? views ticket ≡ some v → IsUnopened items views → Opening ≡ v
  only_opening items views ticket v at unopened =
      (at_only Opening v ticket (ap (λ l. get_elem? l ticket) (sym unopened.alone) ∙ at)).1

  -- a view that waits isn't the holder's
  waits_apart : (views : List (View T D)) (ticket holder : ℕ) (v : View T D) (found : T) (seats : List ℕ)
      → IsResting v → get_elem? views ticket ≡ some v
      → get_elem? views holder ≡ some (Holds found seats) → ticket ≢ holder
  waits_apart views ticket holder v found seats waits at at' same =
      subst IsResting (some-injective v (Holds found seats) (sym at ∙ ap (λ k. get_elem? views k) same ∙ at')) waits

  -- before the first push the place is empty
  when_opening : (items : List T) (views : List (View T D)) (ticket : ℕ) → get_elem? views ticket ≡ some Opening
      → Place items views → IsUnopened items views
  when_opening items views ticket at place = ⊎_elim
      (λ (unopened : IsUnopened items views). unopened)
      (λ rest. ⊎_elim
      (λ (home : IsHome desk items views). absurd (home.each ticket Opening at).0)
      (λ (away : IsAway desk items views). ⊎_elim
      (λ (same : ticket ≡ away.holder).
      let clash : Opening ≡ Holds away.found away.seats = some-injective Opening (Holds away.found away.seats) (sym at ∙ ap (λ k. get_elem? views k) same ∙ away.holds) in absurd (cc))
      (λ (other : ticket ≢ away.holder). absurd (away.others ticket Opening other at).0)
      (same_or_not ticket away.holder))
      rest)
      place

  -- where a view holds, the place is empty, and every other view is as it found it
  when_held : (items : List T) (views : List (View T D)) (ticket : ℕ) (found : T) (seats : List ℕ)
      → get_elem? views ticket ≡ some (Holds found seats)
      → Place items views → (items ≡ []) × EachBut (λ j. j ≡ ticket) found views
  when_held items views ticket found seats at place = ⊎_elim
      (λ (unopened : IsUnopened items views).
      let clash : Opening ≡ Holds found seats = only_opening items views ticket (Holds found seats) at unopened in absurd (cc))
      (λ rest. ⊎_elim
      (λ (home : IsHome desk items views). absurd (home.each ticket (Holds found seats) at).0)
      (λ (away : IsAway desk items views). ⊎_elim
      (λ (same : ticket ≡ away.holder).
      let both : Holds found seats ≡ Holds away.found away.seats =
      some-injective (Holds found seats) (Holds away.found away.seats) (sym at ∙ ap (λ k. get_elem? views k) same ∙ away.holds) in
      let is : away.found ≡ found = cc in
      (away.bare, λ j u apart there. subst (λ y. Fits y u) is (away.others j u (λ e. apart (e ∙ sym same)) there)))
      (λ (other : ticket ≢ away.holder). absurd (away.others ticket (Holds found seats) other at).0)
      (same_or_not ticket away.holder))
      rest)
      place

  pub begins : IsRuled desk [] (Opening ∷ [])
  begins = record { apart = apart_only desk Opening; place = inl (record { bare = refl; alone = refl }) }

  pub bare : (ticket : ℕ) (v : View T D) → Learns (IsRuled desk) ticket v (IsBare v)
  bare ticket Opening items views ruled at = (when_opening items views ticket at ruled.place).bare
  bare ticket (Stock value next) items views ruled at = tt
  bare ticket (Waits desks) items views ruled at = tt
  bare ticket (Holds found seats) items views ruled at = (when_held items views ticket found seats at ruled.place).0

  pub opens : (n ticket : ℕ) (value : T) → Pushes (IsRuled desk) n ticket Opening value (λ w. w ≡ Stock value 0)
  opens n ticket value items views room ruled at =
      let unopened = when_opening items views ticket at ruled.place in
      let first : ticket ≡ 0 = (at_only Opening Opening ticket (ap (λ l. get_elem? l ticket) (sym unopened.alone) ∙ at)).0 in
      let is : set views ticket (Stock value 0) ≡ Stock value 0 ∷ [] =
      ap (λ (x : List (View T D) × ℕ). set x.0 x.1 (Stock value 0)) (λ k. (unopened.alone k, first k)) in
      let each : (j : ℕ) (u : View T D) → get_elem? (Stock value 0 ∷ []) j ≡ some u → Fits value u =
      λ j u there. subst (Fits value) (at_only (Stock value 0) u j there).1 (tt, λ seat d known. known.1) in
      let made : IsRuled desk (items ++ value ∷ []) (Stock value 0 ∷ []) =
      record {
        apart = apart_only desk (Stock value 0);
        place = inr (inl (record { value = value; there = ap (λ l. l ++ value ∷ []) unopened.bare; each = each }));
      } in
      (Stock value 0, subst (IsRuled desk (items ++ value ∷ [])) (sym is) made, refl)

  pub puts : (n ticket : ℕ) (found value : T) (seats : List ℕ)
      → ((seat : ℕ) → (Contains seats seat → ⊥) → desk value seat ≡ desk found seat)
      → Pushes (IsRuled desk) n ticket (Holds found seats) value (λ w. w ≡ after_push desk value (Holds found seats))
  puts n ticket found value seats keeps items views room ruled at =
      let held = when_held items views ticket found seats at ruled.place in
      let w : View T D = after_push desk value (Holds found seats) in
      let fewer : (seat : ℕ) (d : D) → Knows desk w seat d → (e : D) × Knows desk (Holds found seats) seat e =
      λ seat d known. (desk found seat, ((knows_pushed desk value seats seat d known).0, refl)) in
      let others : (j : ℕ) (u : View T D) → j ≢ ticket → get_elem? views j ≡ some u → Fits value u =
      λ j u apart there. let old = held.1 j u apart there in (
        old.0,
        λ seat d known.
            let elsewhere : Contains seats seat → ⊥ =
            λ within. apart (ruled.apart j ticket seat (u, d, there, known) (Holds found seats, desk found seat, at, (within, refl))) in
            keeps seat elsewhere ∙ old.1 seat d known,
      ) in (
        w,
        record {
          apart = apart_set desk views ticket (Holds found seats) w at fewer ruled.apart;
          place = inr (inl (record {
            value = value;
            there = ap (λ l. l ++ value ∷ []) held.0;
            each =
                each_set (λ j u. Fits value u) views ticket w (tt, λ seat d known. (knows_pushed desk value seats seat d known).1) others;
          }));
        },
        refl,
      )

  pub pops : (ticket : ℕ) (desks : List (ℕ × D))
      → Pops (IsRuled desk) ticket (Waits desks) (λ x w. AgreesWith desk x (Waits desks) × (w ≡ after_pop x (Waits desks)))
  pops ticket desks x items views ruled at = ⊎_elim
      (λ (unopened : IsUnopened (x ∷ items) views). absurd (cons_not_nil x items unopened.bare))
      (λ rest. ⊎_elim
      (λ (home : IsHome desk (x ∷ items) views).
      let is : home.value ≡ x = ap (λ l. get_or l 0 x) (sym home.there) in
      let each : (j : ℕ) (u : View T D) → get_elem? views j ≡ some u → Fits x u =
      subst (λ y. (j : ℕ) (u : View T D) → get_elem? views j ≡ some u → Fits y u) is home.each in
      let w : View T D = after_pop x (Waits desks) in
      let fewer : (seat : ℕ) (d : D) → Knows desk w seat d → (e : D) × Knows desk (Waits desks) seat e =
      λ seat d known. knows_popped desk x desks seat known.0 in (
        w,
        record {
          apart = apart_set desk views ticket (Waits desks) w at fewer ruled.apart;
          place = inr (inr (record {
            holder = ticket;
            found = x;
            seats = map (λ known. known.0) desks;
            bare = ap (drop 1) home.there;
            holds = set_there views ticket (Waits desks) w at;
            others = λ j u apart there. each j u (sym (set_else views ticket j w apart) ∙ there);
          }));
        },
        ((each ticket (Waits desks) at).1, refl),
      ))
      (λ (away : IsAway desk (x ∷ items) views). absurd (cons_not_nil x items away.bare))
      rest)
      ruled.place

  -- every view but some fits the value, after a split
  module _ (But : ℕ → Type 0) (base : T) (views : List (View T D)) (ticket : ℕ) (value : T) (next : ℕ)
      (at : get_elem? views ticket ≡ some (Stock value next))
      (free : But ticket → ⊥) (each : EachBut But base views) where
    abbrev left : List (View T D)
    left = set views ticket (Stock value (next + 1))

    stock_fits : Fits base (Stock value next)
    stock_fits = each ticket (Stock value next) free at

    left_fits : Fits base (Stock value (next + 1))
    left_fits = (tt, λ seat d known. let above : next + 1 ≤ seat = known.0 in stock_fits.1 seat d (omega arith, known.1))

    dealt_fits : Fits base (first_of_stock desk value next)
    dealt_fits = (
      tt,
      λ seat d known. let is = knows_dealt desk value next seat d known in
          subst (λ (y : ℕ × D). desk base y.0 ≡ y.1) (λ k. (is.0 k, is.1 k)) (stock_fits.1 next (desk value next) (omega arith, refl)),
    )

    pub each_deal : EachBut But base (left ++ first_of_stock desk value next ∷ [])
    each_deal j u apart there =
        each_push (λ k w. (But k → ⊥) → Fits base w) left (first_of_stock desk value next) (λ _. dealt_fits)
        (each_set (λ k w. (But k → ⊥) → Fits base w) views ticket (Stock value (next + 1)) (λ _. left_fits) (λ k w other old apart'. each k w apart' old))
        j u there apart

  pub deals : (ticket : ℕ) (value : T) (next : ℕ)
      → Forks (IsRuled desk) ticket (Stock value next) (Stock value (next + 1)) (first_of_stock desk value next)
  deals ticket value next items views ruled at =
      let left : List (View T D) = set views ticket (Stock value (next + 1)) in
      let apart = apart_deal desk views ticket value next at ruled.apart in ⊎_elim
      (λ (unopened : IsUnopened items views).
      let clash : Opening ≡ Stock value next = only_opening items views ticket (Stock value next) at unopened in absurd (cc))
      (λ rest. ⊎_elim
      (λ (home : IsHome desk items views).
      let each = each_deal (λ _. ⊥) home.value views ticket value next at (λ none. none) (λ j u _ there. home.each j u there) in
      record { apart = apart; place = inr (inl (record { value = home.value; there = home.there; each = λ j u there. each j u (λ none. none) there })) })
      (λ (away : IsAway desk items views).
      let aside = waits_apart views ticket away.holder (Stock value next) away.found away.seats tt at away.holds in
      record {
        apart = apart;
        place = inr (inr (record {
          holder = away.holder;
          found = away.found;
          seats = away.seats;
          bare = away.bare;
          holds = at_longer left (first_of_stock desk value next ∷ []) away.holder (Holds away.found away.seats)
              (set_else views ticket away.holder (Stock value (next + 1)) (λ same. aside (sym same)) ∙ away.holds);
          others = each_deal (λ j. j ≡ away.holder) away.found views ticket value next at aside away.others;
        }));
      })
      rest)
      ruled.place

  -- every view but some fits the value, after a join
  module _ (But : ℕ → Type 0) (base : T) (views : List (View T D)) (ticket other : ℕ) (desks others : List (ℕ × D))
      (at : get_elem? views ticket ≡ some (Waits desks))
      (at' : get_elem? views other ≡ some (Waits others)) (free : But ticket → ⊥) (free' : But other → ⊥) (each : EachBut But base views) where
    joined_fits : Fits base (Waits (desks ++ others))
    joined_fits = (
      tt,
      λ seat d known. ⊎_elim
          (λ (mine : Contains {X = ℕ × D} desks (seat, d)). (each ticket (Waits desks) free at).1 seat d mine)
          (λ (theirs : Contains {X = ℕ × D} others (seat, d)). (each other (Waits others) free' at').1 seat d theirs)
          (Contains-append_cases desks others (seat, d) known),
    )

    spent_fits : Fits base spent_view
    spent_fits = (tt, λ seat d known. absurd (contains_none (seat, d) known))

    pub each_gather : EachBut But base (set (set views ticket (Waits (desks ++ others))) other spent_view)
    each_gather j u apart there =
        each_set (λ k w. (But k → ⊥) → Fits base w) (set views ticket (Waits (desks ++ others))) other spent_view (λ _. spent_fits)
        (λ k w elsewhere old. each_set (λ k w. (But k → ⊥) → Fits base w) views ticket (Waits (desks ++ others)) (λ _. joined_fits)
        (λ k w elsewhere old apart'. each k w apart' old) k w old)
        j u there apart

  pub gathers : (ticket other : ℕ) (desks others : List (ℕ × D))
      → Merges (IsRuled desk) ticket (Waits desks) other (Waits others) (Waits (desks ++ others)) spent_view
  gathers ticket other desks others items views ruled at two there =
      let joined : List (View T D) = set views ticket (Waits (desks ++ others)) in
      let at' : get_elem? views other ≡ some (Waits others) =
      sym (set_else views ticket other (Waits (desks ++ others)) two)
      ∙ there in
      let apart = apart_gather desk views ticket other desks others at at' ruled.apart in ⊎_elim
      (λ (unopened : IsUnopened items views).
      let clash : Opening ≡ Waits desks = only_opening items views ticket (Waits desks) at unopened in absurd (cc))
      (λ rest. ⊎_elim
      (λ (home : IsHome desk items views).
      let each =
      each_gather (λ _. ⊥) home.value views ticket other desks others at at' (λ none. none) (λ none. none) (λ j u _ old. home.each j u old) in
      record { apart = apart; place = inr (inl (record { value = home.value; there = home.there; each = λ j u old. each j u (λ none. none) old })) })
      (λ (away : IsAway desk items views).
      let aside = waits_apart views ticket away.holder (Waits desks) away.found away.seats tt at away.holds in
      let aside' = waits_apart views other away.holder (Waits others) away.found away.seats tt at' away.holds in
      record {
        apart = apart;
        place = inr (inr (record {
          holder = away.holder;
          found = away.found;
          seats = away.seats;
          bare = away.bare;
          holds =
              set_else joined other away.holder spent_view (λ same. aside' (sym same))
              ∙ set_else views ticket away.holder (Waits (desks ++ others)) (λ same. aside (sym same))
              ∙ away.holds;
          others = each_gather (λ j. j ≡ away.holder) away.found views ticket other desks others at at' aside aside' away.others;
        }));
      })
      rest)
      ruled.place
