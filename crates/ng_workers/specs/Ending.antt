-- A run by seats of threads, from where a core stands to its end.
use Rattle.std.specs.Prelude.{◌≡◌, ℕ, ◌+◌, ◌<◌, false, true, List, ◌++◌, length, Option, Some, None}
use Rattle.ng_base.specs.declared.event.Event.{Event}
use Rattle.ng_machine.specs.declared.input.Input.{Input}
use Rattle.ng_machine.specs.Desk.{own_events}
use Rattle.ng_machine.specs.Laws.{Setting, IsJournal, run_state_after, start}
use Rattle.ng_machine.specs.Orderly.{IsWhole}
use Rattle.ng_machine.specs.SetUp.{has_waited}
use Rattle.ng_machine.specs.Words.{Every, times}
use Rattle.ng_machine.specs.story.SoundStory.{IsSoundStory}
use Rattle.ng_machine.specs.story.Story.{Story, begun, has_failed, run_state_of, with_more}
use Rattle.ng_workers.specs.Desks.{is_back, is_feed}

-- a seat's own events are those that it had, and more, none of them a Back
pub record KeptAtIt (old new : Story) (seat : ℕ) : Type 0 where
  pub more : List Event
  pub own : own_events new.journal seat ≡ own_events old.journal seat ++ more
  pub goes_on : Every (λ event. is_back event ≡ false) more

-- Some of the inputs were fed, an event for each, the others are left, and the core is closed with their number; no seat gave up.
-- The first packet or tick waited, where it was not fed before. That the journal is orderly is what every core's type keeps.
pub record RanToEnd (old : Story) (inputs : List Input) (new : Story) : Type 0 where
  pub fed : List Input
  pub left : List Input
  pub parts : inputs ≡ fed ++ left
  pub setting : new.setting ≡ with_more old.setting fed
  pub closed : new.closed ≡ Some (length left)
  pub feeds : times is_feed new.journal ≡ times is_feed old.journal + length fed
  pub own : (seat : ℕ) → seat < old.setting.seats → KeptAtIt old new seat
  pub stays : has_failed new ≡ false
  pub waited : has_waited new.setting new.journal ≡ has_waited old.setting old.journal

-- the core isn't closed, or is closed with the number of the inputs that are left
abbrev pub MayHaveLeft : Option ℕ → List Input → Type 0
MayHaveLeft None left = Unit {0}
MayHaveLeft (Some unfed) left = length left ≡ unfed

-- a seat's own events are those that it had, and more
pub record KeptOwn (old new : Story) (seat : ℕ) : Type 0 where
  pub more : List Event
  pub own : own_events new.journal seat ≡ own_events old.journal seat ++ more

-- Memory ran out within it: some of the inputs were fed, an event for each, and the others are left. What was done before
-- it began stands. That the journal is orderly is what every core's type keeps.
pub record RanPartly (old : Story) (inputs : List Input) (new : Story) : Type 0 where
  pub fed : List Input
  pub left : List Input
  pub parts : inputs ≡ fed ++ left
  pub setting : new.setting ≡ with_more old.setting fed
  pub closed : MayHaveLeft new.closed left
  pub feeds : times is_feed new.journal ≡ times is_feed old.journal + length fed
  pub own : (seat : ℕ) → seat < old.setting.seats → KeptOwn old new seat

-- from a core that was just made, its journal is orderly over all inputs, and whole, and the run over all of them ends where the core
-- stands; and the set-up was waited for
abbrev pub RanIsWhole : Type 0
RanIsWhole =
    (setting : Setting) (inputs : List Input) (new : Story) → IsSoundStory new → RanToEnd (begun setting) inputs new
    → IsJournal (with_more setting inputs) new.journal × IsWhole (start setting) (with_more setting inputs).given new.journal
    × (run_state_after (with_more setting inputs) new.journal ≡ run_state_of new)
    × (has_waited (with_more setting inputs) new.journal ≡ true)

-- where memory ran out within it, the journal is orderly over all inputs, as far as it goes
abbrev pub RanIsOrderly : Type 0
RanIsOrderly =
    (old : Story) (inputs : List Input) (new : Story) → IsSoundStory new → RanPartly old inputs new
    → IsJournal (with_more old.setting inputs) new.journal
