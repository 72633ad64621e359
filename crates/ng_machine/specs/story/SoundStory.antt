-- What holds of the story of every core, whatever seats call it in whatever order.
use Rattle.std.specs.Prelude.{◌≡◌, false, length, None}
use Rattle.ng_machine.specs.story.Story.{Story, run_state_of, world_of, IsOrderlyStory}
use Rattle.ng_machine.specs.story.Closing.{IsClosedWell}

pub record IsSoundStory (s : Story) : Type 0 where
  pub orderly : IsOrderlyStory s
  -- the inputs of its setting are those that its journal fed
  pub fed : (world_of s).fed ≡ length s.setting.given.inputs
  -- only close stops it
  pub going : s.closed ≡ None → (run_state_of s).stopped ≡ false
  pub closed : IsClosedWell s s.closed
  pub marks : length s.gave_up ≡ s.setting.seats
