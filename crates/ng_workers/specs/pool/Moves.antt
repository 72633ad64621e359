-- What a list of moves does: each is made, and then its event is in the journal, or it is skipped.
use Rattle.std.specs.Prelude.{◌≡◌, ◌⊎◌, ℕ, zero, suc, ◌+◌, ◌≤◌, true, List, [], ◌∷◌}
use Rattle.ng_base.specs.declared.event.Event.{Event}
use Rattle.ng_base.specs.declared.event.Event.TheVariants.{Take, Back, Apply}
use Rattle.ng_base.specs.declared.ids.ItemId.{ItemId}
use Rattle.ng_machine.specs.declared.input.Input.{Input}
use Rattle.ng_machine.specs.Desk.{Job, Idle, Within, Reads, Writes}
use Rattle.ng_workers.specs.pool.Feeding.{IsFed, IsUnfed}
use Rattle.ng_workers.specs.declared.pool.moves.Move.{Move}
use Rattle.ng_workers.specs.declared.pool.moves.Move.TheVariants as by
use Rattle.ng_machine.specs.story.Desks.{story_job}
use Rattle.ng_machine.specs.story.Story.{NothingToTake, Story, has_ended, with_event}

-- with an event of the item that a job has, where there is one
abbrev pub with_of : (ItemId → Event) → Job → Story → Story
with_of event Idle s = s
with_of event (Within item) s = with_event s (event item.id)
with_of event (Reads item plan) s = with_event s (event item.id)
with_of event (Writes item state) s = with_event s (event item.id)

-- the move is skipped: the core has ended, or doesn't feed the next input, or there is none; there is no such seat, or it has
-- an item, or nothing is to be taken; there is no such seat, or it has no item
abbrev pub Skips : Story → List Input → Move → Type 0
Skips s inputs by.Feed = (has_ended s ≡ true) ⊎ IsUnfed s inputs
Skips s inputs (by.Take seat) = (s.setting.seats ≤ seat) ⊎ ((story_job s seat ≡ Idle → ⊥) ⊎ NothingToTake s)
Skips s inputs (by.Back seat) = (s.setting.seats ≤ seat) ⊎ (story_job s seat ≡ Idle)
Skips s inputs (by.Apply seat) = (s.setting.seats ≤ seat) ⊎ (story_job s seat ≡ Idle)

-- the move is made. Which item is taken, every core's type keeps: the least that may be.
abbrev pub Makes : Story → List Input → Move → Story → List Input → Type 0
Makes s inputs by.Feed t left = IsFed s inputs t left
Makes s inputs (by.Take seat) t left = (id : ItemId) × (t ≡ with_event s (Take seat id)) × (left ≡ inputs)
Makes s inputs (by.Back seat) t left = (t ≡ with_of Back (story_job s seat) s) × (left ≡ inputs)
Makes s inputs (by.Apply seat) t left = (t ≡ with_of Apply (story_job s seat) s) × (left ≡ inputs)

-- the moves from place n on: each is made, or its place is among those that are skipped
abbrev pub Played : List Move → ℕ → Story → List Input → List ℕ → Story → List Input → Type 0
Played [] n s inputs skipped t left = (skipped ≡ []) × (t ≡ s) × (left ≡ inputs)
Played (m ∷ moves) n s inputs skipped t left =
    (Skips s inputs m × (rest : List ℕ) × (skipped ≡ n ∷ rest) × Played moves (n + 1) s inputs rest t left)
    ⊎ ((Skips s inputs m → ⊥) × (u : Story) × (more : List Input) × Makes s inputs m u more × Played moves (n + 1) u more skipped t left)

-- each of so many seats, from this one on, gives back what it has, in order
abbrev pub given_back : ℕ → ℕ → Story → Story
given_back zero seat s = s
given_back (suc k) seat s = given_back k (seat + 1) (with_of Back (story_job s seat) s)
