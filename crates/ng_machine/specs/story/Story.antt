-- What a caller knows of a core: what it was made of and fed, its journal, who gave up, and how it was closed.
use Rattle.std.specs.Prelude.{◌≡◌, ℕ, ◌≤◌, ◌+◌, ◌⊎◌, Bool, true, false, ◌||◌, List, [], ◌∷◌, ◌++◌, length, is_some, replicate, slice_set, Option, Some, None}
use Rattle.std.specs.List.{list_any}
use Rattle.ng_base.specs.declared.event.Event.{Event}
use Rattle.ng_machine.specs.declared.input.Input.{Input}
use Rattle.ng_machine.specs.declared.item.Item.{Item}
use Rattle.ng_machine.specs.World.{World}
use Rattle.ng_machine.specs.Run.{RunState}
use Rattle.ng_machine.specs.Orderly.{MayTake}
use Rattle.ng_machine.specs.Laws.{Setting, run_state_after, IsJournal}
use Rattle.ng_machine.specs.LowRun.{IsModest}

pub record Story : Type 0 where
  pub setting : Setting  -- its inputs are those that were fed, in order
  pub journal : List Event
  pub gave_up : List Bool  -- by seat
  pub closed : Option ℕ  -- the number of unfed inputs that close was given, where it ended the core

abbrev pub run_state_of : Story → RunState
run_state_of s = run_state_after s.setting s.journal

abbrev pub world_of : Story → World
world_of s = (run_state_of s).world

abbrev pub has_failed : Story → Bool
has_failed s = list_any (λ (b : Bool). b) s.gave_up

abbrev pub has_ended : Story → Bool
has_ended s = is_some s.closed || has_failed s

-- the setting with more inputs behind
abbrev pub with_more : Setting → List Input → Setting
with_more setting more = record setting { given = record setting.given { inputs = setting.given.inputs ++ more } }

-- What a call adds

abbrev pub with_event : Story → Event → Story
with_event s event = record s { journal = s.journal ++ event ∷ [] }

abbrev pub with_input : Story → Input → Story
with_input s input = record s { setting = with_more s.setting (input ∷ []) }

abbrev pub given_up_by : Story → ℕ → Story
given_up_by s seat = record s { gave_up = slice_set s.gave_up seat true }

-- what a core is when it is made: its setting has no inputs yet
abbrev pub begun : Setting → Story
begun setting = record { setting = setting; journal = []; gave_up = replicate setting.seats false; closed = None }

-- ORDERLY, over every list of inputs that begins with those fed. After a Stop as many follow as close was told.

abbrev pub follow_if : Bool → Option ℕ → List Input → Type 0
follow_if false closed more = Unit {0}
follow_if true None more = Unit {0}
follow_if true (Some unfed) more = length more ≡ unfed

abbrev pub MayFollow : Story → List Input → Type 0
MayFollow s more = follow_if (run_state_of s).stopped s.closed more

abbrev pub IsOrderlyStory : Story → Type 0
IsOrderlyStory s = (more : List Input) → MayFollow s more → IsJournal (with_more s.setting more) s.journal

-- the inputs may be fed after those that were: packets come by ports and are no longer than the longest, and the commands
-- are few enough
abbrev pub AreFitFor : Story → List Input → Type 0
AreFitFor s inputs = IsModest (with_more s.setting inputs)

-- What is taken next

-- the least of the items that may be taken
pub record IsNext (at : RunState) (item : Item) : Type 0 where
  pub may : MayTake at item
  pub least : (other : Item) → MayTake at other → item.id.0 ≤ other.id.0

-- nothing is to be taken: the core has ended, applied and taken items together reach the limit, or no item may be taken
abbrev pub NothingToTake : Story → Type 0
NothingToTake s =
    (has_ended s ≡ true) ⊎ ((s.setting.budget ≤ (world_of s).applies + length (run_state_of s).taken) ⊎ ((item : Item) → MayTake (run_state_of s) item → ⊥))
