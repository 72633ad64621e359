-- A holding of the core, by what the turn and the core's calls say of it.
use Rattle.std.proofs.Common.{◌≡◌, ◌≢◌, ◌<◌, ℕ, refl, sym, ap, ◌∙◌, subst}
use Rattle.ng_machine.specs.Desk.{SeatDesk}
use Rattle.ng_core.specs.CoreStory.{CoreStory, story}
use Rattle.ng_machine.specs.story.Desks.{Others, story_desk}
use Rattle.ng_machine.specs.story.Story.{Story}
use Rattle.ng_workers.specs.Desks.{core_desk}

pub both_others : (seat : ℕ) (a b c : Story) → Others seat a b → Others seat b c → Others seat a c
both_others seat a b c o p other else = p other else ∙ o other else

pub no_others : (seat : ℕ) (a : Story) → Others seat a a
no_others seat a other else = refl

-- the core as it was lent and as it came back, by the seat of the pass
module _ (found old new : CoreStory) (seat by : ℕ) (same : found ≡ old) (mine : by ≡ seat) where
  -- the desks of other seats are as they were found
  pub others_stay : Others seat (story old) (story new) → (other : ℕ) → other ≢ by → core_desk new other ≡ core_desk found other
  others_stay o other else = o other (λ (is : other ≡ seat). else (is ∙ sym mine)) ∙ ap (λ (c : CoreStory). core_desk c other) (sym same)

  -- the desk that the pass had is the core's of the seat
  pub desk_then : (d : SeatDesk) → core_desk found seat ≡ d → core_desk old seat ≡ d
  desk_then d is = ap (λ (c : CoreStory). core_desk c seat) (sym same) ∙ is

  pub desk_now : (d : SeatDesk) → d ≡ core_desk new by → core_desk new seat ≡ d
  desk_now d is = ap (core_desk new) (sym mine) ∙ sym is
