-- The rule of the place. Each ticket of the place has a number and a view, what is known to who has the ticket, and
-- `views` has the view of each ticket at its number. The rule is a fact of all views and of what lies in the place
-- (`items`), and it holds at every moment:
--
-- * No seat is known to two views.
-- * Before the first push the place is empty, and there is one view.
-- * After it one of two things is so. At home: the place has one value, no view holds it, and the value agrees with
--   what each view knows. Away: the place is empty, one view holds the value, and what each other view knows is so in
--   the value that the holder found.
--
-- There are four kinds of step. A pop tells the holder that the value agrees with its view, or finds the place empty
-- and changes nothing. A push brings the value home and changes the view of the pusher alone; where a view holds, the
-- place is empty, so a push always finds room. A split, which `new` alone makes, gives the next seat of the stock a
-- view of its own. A join, which `end` alone makes, puts together what two views know.
--
-- The protocol of a queue that keeps such a rule is that of the kit's `RuledArrayQueue`.
use Rattle.std.specs.Prelude.{◌≡◌, ◌≢◌, ℕ, ◌+◌, ◌≤◌, ◌⊎◌, List, [], ◌∷◌, ◌++◌, map, Contains, ⊤}
use mathlib.Core.Option.{some}
use lib.ListN.{get_elem?}
use Rattle.ng_turn.specs.declared.rule.View.{View}
use Rattle.ng_turn.specs.declared.rule.View.TheVariants.{Opening, Stock, Waits, Holds}

-- What a view is, whatever the desks are.
module _ {T D : Type 0} where
  -- the value was laid down, and this view doesn't hold it
  abbrev pub IsResting : View T D → Type 0
  IsResting Opening = ⊥
  IsResting (Stock value next) = ⊤
  IsResting (Waits desks) = ⊤
  IsResting (Holds found seats) = ⊥

  -- a view of seats that wait for the value
  abbrev pub IsOfSeats : View T D → Type 0
  IsOfSeats v = (desks : List (ℕ × D)) × (v ≡ Waits desks)

  -- a view that knows of no seat
  abbrev pub spent_view : View T D
  spent_view = Waits []

  -- what a pop of the value makes of a view
  abbrev pub after_pop : T → View T D → View T D
  after_pop value Opening = Opening
  after_pop value (Stock first next) = Stock first next
  after_pop value (Waits desks) = Holds value (map (λ known. known.0) desks)
  after_pop value (Holds found seats) = Holds found seats

  -- what a split leaves of the stock
  abbrev pub stock_left : View T D → View T D
  stock_left Opening = Opening
  stock_left (Stock value next) = Stock value (next + 1)
  stock_left (Waits desks) = Waits desks
  stock_left (Holds found seats) = Holds found seats

  -- what two views know
  abbrev pub joined_view : View T D → View T D → View T D
  joined_view (Waits desks) (Waits others) = Waits (desks ++ others)
  joined_view v w = v

  -- where the view holds, the place is empty
  abbrev pub IsBare : View T D → List T → Type 0
  IsBare Opening items = items ≡ []
  IsBare (Stock value next) items = ⊤
  IsBare (Waits desks) items = ⊤
  IsBare (Holds found seats) items = items ≡ []

-- What a view says of the desks.
module _ {T D : Type 0} (desk : T → ℕ → D) where
  -- the view knows that this is the desk of the seat
  abbrev pub Knows : View T D → ℕ → D → Type 0
  Knows Opening seat d = ⊥
  Knows (Stock value next) seat d = (next ≤ seat) × (desk value seat ≡ d)
  Knows (Waits desks) seat d = Contains desks (seat, d)
  Knows (Holds found seats) seat d = Contains seats seat × (desk found seat ≡ d)

  -- each desk that the view knows is that of the value
  abbrev pub AgreesWith : T → View T D → Type 0
  AgreesWith value v = (seat : ℕ) (d : D) → Knows v seat d → desk value seat ≡ d

  -- what a push of the value makes of a view
  abbrev pub after_push : T → View T D → View T D
  after_push value Opening = Opening
  after_push value (Stock first next) = Stock first next
  after_push value (Waits desks) = Waits desks
  after_push value (Holds found seats) = Waits (map (λ seat. (seat, desk value seat)) seats)

  -- what a split gives to the next seat of the stock
  abbrev pub dealt_view : View T D → View T D
  dealt_view Opening = spent_view
  dealt_view (Stock value next) = Waits ((next, desk value next) ∷ [])
  dealt_view (Waits desks) = spent_view
  dealt_view (Holds found seats) = spent_view

  -- the view with this number knows the seat
  abbrev pub KnowsSeat : List (View T D) → ℕ → ℕ → Type 0
  KnowsSeat views ticket seat = (v : View T D) × (d : D) × (get_elem? views ticket ≡ some v) × Knows v seat d

  -- no seat is known to two views
  abbrev pub IsApart : List (View T D) → Type 0
  IsApart views = (i j seat : ℕ) → KnowsSeat views i seat → KnowsSeat views j seat → i ≡ j

-- no value was laid down yet
pub record IsUnopened {T D : Type 0} (items : List T) (views : List (View T D)) : Type 0 where
  pub bare : items ≡ []
  pub alone : views ≡ Opening ∷ []

-- the value lies in the place, and agrees with every view
pub record IsHome {T D : Type 0} (desk : T → ℕ → D) (items : List T) (views : List (View T D)) : Type 0 where
  pub value : T
  pub there : items ≡ value ∷ []
  pub each : (ticket : ℕ) (v : View T D) → get_elem? views ticket ≡ some v → IsResting v × AgreesWith desk value v

-- the place is empty, one view holds, and every other view is as the holder found it
pub record IsAway {T D : Type 0} (desk : T → ℕ → D) (items : List T) (views : List (View T D)) : Type 0 where
  pub holder : ℕ
  pub found : T
  pub seats : List ℕ
  pub bare : items ≡ []
  pub holds : get_elem? views holder ≡ some (Holds found seats)
  pub others : (ticket : ℕ) (v : View T D) → ticket ≢ holder → get_elem? views ticket ≡ some v
      → IsResting v × AgreesWith desk found v

-- the rule
pub record IsRuled {T D : Type 0} (desk : T → ℕ → D) (items : List T) (views : List (View T D)) : Type 0 where
  pub apart : IsApart desk views
  pub place : IsUnopened items views ⊎ (IsHome desk items views ⊎ IsAway desk items views)
