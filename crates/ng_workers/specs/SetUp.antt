-- The set-up comes before the traffic: the first packet or tick is fed only where nothing is pending. Every command in front of
-- all marks comes before it, so each of them is settled then.
use Rattle.std.specs.Prelude.{◌≡◌, ◌⊎◌, Bool, true, false, not, ◌==◌, ◌&&◌, if◌then◌else◌, List, length}
use Rattle.ng_machine.specs.declared.input.Input.{Input}
use Rattle.ng_machine.specs.story.Story.{Story, world_of}
use Rattle.ng_workers.specs.declared.feeder.Stage.{Stage}
use Rattle.ng_workers.specs.declared.feeder.Stage.TheVariants.{SetUp, Traffic}
use Rattle.ng_workers.specs.pool.Feeding.{IsUnfed, begins_with_traffic}

-- the next input is the first packet or tick, and something is pending
abbrev pub is_held_back : Stage → Story → List Input → Bool
is_held_back SetUp s inputs = begins_with_traffic inputs && not (length (world_of s).pending == 0)
is_held_back Traffic s inputs = false

-- with the first packet or tick the traffic begins
abbrev pub stage_after : Stage → Bool → Bool → Stage
stage_after stage fed is_traffic = if fed && is_traffic then Traffic else stage

-- no input is left, the machine doesn't feed the next one now, or it is held back
abbrev pub IsAllFed : Stage → Story → List Input → Type 0
IsAllFed stage s inputs = IsUnfed s inputs ⊎ (is_held_back stage s inputs ≡ true)
