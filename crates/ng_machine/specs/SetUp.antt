-- The set-up comes before the traffic: the first packet or tick is fed where nothing is pending, and so each command in front of
-- all marks is done then. Runs with workers keep it.
use Rattle.std.specs.Prelude.{ℕ, zero, suc, Bool, true, false, not, ◌&&◌, ◌||◌, List, [], ◌∷◌}
use Rattle.ng_base.specs.declared.event.Event.{Event}
use Rattle.ng_base.specs.declared.event.Event.TheVariants.{Feed}
use Rattle.ng_machine.specs.declared.input.Input.{Input}
use Rattle.ng_machine.specs.Words.{is_empty}
use Rattle.ng_machine.specs.World.{World}
use Rattle.ng_machine.specs.Feed.{RunInput}
use Rattle.ng_machine.specs.Refusal.{is_command}
use Rattle.ng_machine.specs.Run.{RunState, after, beginning}
use Rattle.ng_machine.specs.Laws.{Setting, start}

-- a packet or a tick, and no command
abbrev pub is_traffic : Input → Bool
is_traffic input = not (is_command input)

-- the input at this place is the first packet or tick
abbrev pub is_first_traffic : List Input → ℕ → Bool
is_first_traffic [] place = false
is_first_traffic (input ∷ inputs) zero = is_traffic input
is_first_traffic (input ∷ inputs) (suc place) = is_command input && is_first_traffic inputs place

-- the event doesn't feed the first packet or tick, or nothing is pending
abbrev pub waits : RunInput → World → Event → Bool
waits given w Feed = not (is_first_traffic given.inputs w.fed) || is_empty w.pending
waits given w _ = true

abbrev pub all_wait : RunInput → RunState → List Event → Bool
all_wait given at [] = true
all_wait given at (event ∷ events) = waits given at.world event && all_wait given (after given at event) events

abbrev pub has_waited : Setting → List Event → Bool
has_waited s journal = all_wait s.given (beginning (start s)) journal
