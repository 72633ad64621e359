-- How a core is closed: why it isn't, and what it is then.
use Rattle.std.specs.Prelude.{◌≡◌, ℕ, Bool, true, false, ◌==◌, ◌||◌, ◌&&◌, nat_lt, [], ◌∷◌, length, Option, Some, None}
use Rattle.ng_base.specs.declared.event.Event.TheVariants.{Stop}
use Rattle.ng_machine.specs.Words.{first_refusal}
use Rattle.ng_machine.specs.declared.story.unclosed.Unclosed.{Unclosed}
use Rattle.ng_machine.specs.declared.story.unclosed.Unclosed.TheVariants.{Pending, Unfed}
use Rattle.ng_machine.specs.story.Story.{Story, run_state_of, world_of, with_event}

-- as many items were applied as may be
abbrev pub is_spent : Story → Bool
is_spent s = (world_of s).applies == s.setting.budget

-- below the limit nothing may be pending, and then nothing unfed
abbrev pub refusal_below : Bool → ℕ → ℕ → Option Unclosed
refusal_below true pending unfed = None
refusal_below false pending unfed = first_refusal ((nat_lt 0 pending, Pending pending) ∷ (nat_lt 0 unfed, Unfed unfed) ∷ [])

-- why the core isn't closed, with so many inputs unfed
abbrev pub close_refusal : Story → ℕ → Option Unclosed
close_refusal s unfed = refusal_below (is_spent s) (length (world_of s).pending) unfed

-- it stops where the limit is reached and something is pending or unfed
abbrev pub stops : Story → ℕ → Bool
stops s unfed = is_spent s && (nat_lt 0 (length (world_of s).pending) || nat_lt 0 unfed)

abbrev pub stopped_if : Bool → Story → Story
stopped_if true s = with_event s Stop
stopped_if false s = s

abbrev pub closed_with : Story → ℕ → Story
closed_with s unfed = record (stopped_if (stops s unfed) s) { closed = Some unfed }

-- what is so of a closed core: nothing is pending, and without a Stop nothing was unfed
abbrev pub IsClosedWell : Story → Option ℕ → Type 0
IsClosedWell s None = Unit {0}
IsClosedWell s (Some unfed) = ((world_of s).pending ≡ []) × ((run_state_of s).stopped ≡ false → unfed ≡ 0)
