-- A run of one seat that does one thing after another, from where a core stands to its end.
use Rattle.std.specs.Prelude.{◌≡◌, List, ◌++◌, length, Some, None}
use Rattle.ng_base.specs.declared.event.Event.{Event}
use Rattle.ng_machine.specs.declared.input.Input.{Input}
use Rattle.ng_machine.specs.Laws.{Setting, IsJournal, run_state_after, start}
use Rattle.ng_machine.specs.Orderly.{IsWhole}
use Rattle.ng_machine.specs.Plain.{PlainFrom, IsPlain}
use Rattle.ng_machine.specs.Run.{after_all}
use Rattle.ng_machine.specs.story.SoundStory.{IsSoundStory}
use Rattle.ng_machine.specs.story.Story.{Story, begun, run_state_of, with_more}

-- a story with more inputs fed and more events
abbrev pub stretched : Story → List Input → List Event → Story
stretched s fed events = record s { setting = with_more s.setting fed; journal = s.journal ++ events }

-- Some of the inputs were fed, the others are left, and the core is closed with their number. Over all of them each event is
-- plain where it stands: an item that is taken is applied at once, and an input is fed where nothing is pending. That the
-- journal is orderly and whole is what every core's type keeps.
pub record WentPlainly (old : Story) (inputs : List Input) (new : Story) : Type 0 where
  pub fed : List Input
  pub left : List Input
  pub parts : inputs ≡ fed ++ left
  pub events : List Event
  pub story : new ≡ record (stretched old fed events) { closed = Some (length left) }
  pub plainly : PlainFrom (with_more old.setting inputs).given (run_state_of old) events
  -- the inputs that are left change nothing of where it ended
  pub same : after_all (with_more old.setting inputs).given (run_state_of old) events ≡ run_state_of new

-- Memory ran out within it: some of the inputs were fed, the others are left, and the core isn't closed. Over all of them
-- each event so far is plain where it stands. That the journal is orderly is what every core's type keeps.
pub record WentPartly (old : Story) (inputs : List Input) (new : Story) : Type 0 where
  pub fed : List Input
  pub left : List Input
  pub parts : inputs ≡ fed ++ left
  pub setting : new.setting ≡ with_more old.setting fed
  pub events : List Event
  pub journal : new.journal ≡ old.journal ++ events
  pub plainly : PlainFrom (with_more old.setting inputs).given (run_state_of old) events
  pub unclosed : new.closed ≡ None

-- from a core of one seat that was just made, it is the plain journal of all inputs, which is whole
abbrev pub PlainlyIsPlain : Type 0
PlainlyIsPlain =
    (setting : Setting) (inputs : List Input) (new : Story) → setting.seats ≡ 1 → IsSoundStory new → WentPlainly (begun setting) inputs new
    → IsPlain (start setting) (with_more setting inputs).given setting.budget new.journal

-- from a core of any number of seats that was just made, its journal is orderly over all inputs, and whole, and the run over all
-- of them ends where the core stands
abbrev pub PlainlyIsWhole : Type 0
PlainlyIsWhole =
    (setting : Setting) (inputs : List Input) (new : Story) → IsSoundStory new → WentPlainly (begun setting) inputs new
    → IsJournal (with_more setting inputs) new.journal × IsWhole (start setting) (with_more setting inputs).given new.journal
    × (run_state_after (with_more setting inputs) new.journal ≡ run_state_of new)

-- where memory ran out within it, the journal is orderly over all inputs, as far as it goes
abbrev pub PartlyIsOrderly : Type 0
PartlyIsOrderly =
    (old : Story) (inputs : List Input) (new : Story) → IsSoundStory new → WentPartly old inputs new
    → IsJournal (with_more old.setting inputs) new.journal
