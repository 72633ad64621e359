-- Places under names by numbers: what a change of the numbers makes of the places.
use Rattle.std.proofs.Common.{◌≡◌, ℕ, List, Option, Some, None, bytes_eq, refl, sym, ap, ◌∙◌, inl, inr}
use Rattle.std.specs.Option.{option_map}
use Rattle.std.proofs.lemmas.Bool.{cases_Bool}
use Rattle.ng_plan.specs.lookup.ByName.{CutsPlace}
use Rattle.ng_plan.specs.lookup.NameMap.{IsSame, LeavesOut, Map, PutsUnder, down_above, under}
use Rattle.ng_plan.specs.lookup.Order.{KeepsPlaces, Numbers, place_in}
use Rattle.ng_plan.specs.lookup.Places.{AreGiven, placed}
use Rattle.ng_plan.proofs.lookup.NameMaps.{under_map}

-- the place under a name is that of its number
pub under_placed : (m : Map ℕ) (xs : List ℕ) (name : List ℕ) → under (placed m xs) name ≡ option_map (place_in xs) (under m name)
under_placed m xs name = under_map (place_in xs) m.names m.values name

pub place_by_number : (m : Map ℕ) (xs : List ℕ) (name : List ℕ) (o : Option ℕ) → o ≡ under m name → option_map (place_in xs) o ≡ under (placed m xs) name
place_by_number m xs name o is = ap (option_map (place_in xs)) is ∙ sym (under_placed m xs name)

pub none_placed : (m : Map ℕ) (xs : List ℕ) → ((name : List ℕ) → under m name ≡ None) → (name : List ℕ) → under (placed m xs) name ≡ None
none_placed m xs none name = under_placed m xs name ∙ ap (option_map (place_in xs)) (none name)

-- where no place stands under a name, no number does
pub none_numbered : (m k : Map ℕ) (xs : List ℕ) (name : List ℕ) → IsSame m k → under (placed m xs) name ≡ None → under k name ≡ None
none_numbered m k xs name same none = same name ∙ by (under m name) (sym (under_placed m xs name) ∙ none)
  where
    by : (o : Option ℕ) → option_map (place_in xs) o ≡ None → o ≡ None
    by None is = refl
    by (Some number) is = absurd (cc is)

-- a copy has the same places
pub again_placed : (m k : Map ℕ) (xs ys : List ℕ) → IsSame m k → ys ≡ xs → IsSame (placed m xs) (placed k ys)
again_placed m k xs ys same copied name =
    under_placed k ys name
    ∙ ap (option_map (place_in ys)) (same name)
    ∙ ap (λ (zs : List ℕ). option_map (place_in zs) (under m name)) copied
    ∙ sym (under_placed m xs name)

-- numbers that are given beside those that were there leave these their places
pub same_placed : (m k : Map ℕ) (old new : Numbers) → AreGiven m old.next → IsSame m k → KeepsPlaces old new
    → IsSame (placed m old.standing) (placed k new.standing)
same_placed m k old new given same keeps name =
    under_placed k new.standing name
    ∙ ap (option_map (place_in new.standing)) (same name)
    ∙ kept (under m name) refl
    ∙ sym (under_placed m old.standing name)
  where
    kept : (o : Option ℕ) → under m name ≡ o → option_map (place_in new.standing) o ≡ option_map (place_in old.standing) o
    kept None none = refl
    kept (Some number) is = ap Some (keeps.places number (given name number is))

-- a number is put under a name
pub put_placed : (m k n : Map ℕ) (old new : Numbers) (name : List ℕ) (number place : ℕ) → AreGiven m old.next → IsSame m k → KeepsPlaces old new
    → PutsUnder k name number n → place_in new.standing number ≡ place → PutsUnder (placed m old.standing) name place (placed n new.standing)
put_placed m k n old new name number place given same keeps puts at other =
    under_placed n new.standing other
    ∙ ap (option_map (place_in new.standing)) (puts other)
    ∙ elim (cases_Bool (bytes_eq name other)) [
      | inl is ↦ rw is (ap Some at)
      | inr apart ↦ rw apart (sym (under_placed k new.standing other) ∙ same_placed m k old new given same keeps other)
    ]

-- a name and the number of a place are taken out
pub cut_placed : (m n : Map ℕ) (xs ys : List ℕ) (name : List ℕ) (place : ℕ) → LeavesOut m name n
    → ((number : ℕ) → place_in ys number ≡ down_above place (place_in xs number)) → CutsPlace (placed m xs) name place (placed n ys)
cut_placed m n xs ys name place leaves down other =
    under_placed n ys other
    ∙ ap (option_map (place_in ys)) (leaves other)
    ∙ elim (cases_Bool (bytes_eq name other)) [
      | inl is ↦ rw is refl
      | inr apart ↦ rw apart (lower (under m other) ∙ sym (ap (option_map (down_above place)) (under_placed m xs other)))
    ]
  where
    lower : (o : Option ℕ) → option_map (place_in ys) o ≡ option_map (down_above place) (option_map (place_in xs) o)
    lower None = refl
    lower (Some number) = ap Some (down number)
