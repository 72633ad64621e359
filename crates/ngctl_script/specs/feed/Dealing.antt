-- Commands are fed in turns: in front of all, right behind that, behind the first packet, and so on, and at the end.
use Rattle.std.specs.Prelude.{ℕ, ◌+◌, Bool, false, ◌==◌, min, if◌then◌else◌, List, [], ◌∷◌, ◌++◌, map, Option, Some, None}
use Rattle.ng_base.specs.declared.ids.Stamp.{Stamp}
use Rattle.ng_machine.specs.declared.input.Input.{Input}
use Rattle.ng_machine.specs.declared.input.Input.TheVariants.{Command}
use Rattle.ng_machine.specs.Feed.{later}
use Rattle.ngctl_script.specs.declared.when.When.{When}
use Rattle.ngctl_script.specs.declared.when.When.TheVariants.{First, After, Late}
use Rattle.ngctl_script.specs.declared.feed.arrival.Arrival.{Arrival}
use Rattle.ngctl_script.specs.feed.Inputs.{Timed, ticks, packet_input}

-- the turn of a command, where there are so many packets
abbrev pub turn : ℕ → When → ℕ
turn packets First = 0
turn packets (After place) = min place packets + 1
turn packets Late = packets + 2

abbrev pub first_when : Timed → Option When
first_when [] = None
first_when (timed ∷ script) = Some timed.0

-- the first command has this turn
abbrev pub is_due : ℕ → ℕ → Timed → Bool
is_due packets now [] = false
is_due packets now (timed ∷ script) = turn packets timed.0 == now

-- the commands in front that have this turn, and those behind them
abbrev pub due : ℕ → ℕ → Timed → Timed
due packets now [] = []
due packets now (timed ∷ script) = if turn packets timed.0 == now then timed ∷ due packets now script else []

abbrev pub left : ℕ → ℕ → Timed → Timed
left packets now [] = []
left packets now (timed ∷ script) = if turn packets timed.0 == now then left packets now script else timed ∷ script

-- the packets from the n-th on, each in front of the commands of its turn
abbrev pub feeds_from : ℕ → Stamp → Stamp → ℕ → Timed → List Arrival → List Input
feeds_from packets first clock n script [] = []
feeds_from packets first clock n script (arrival ∷ arrivals) =
    ticks first clock arrival.stamp ++ (packet_input arrival ∷ (map (λ timed. Command timed.1) (due packets (n + 1) script)
    ++ feeds_from packets first (later clock arrival.stamp) (n + 1) (left packets (n + 1) script) arrivals))

abbrev pub feeds : ℕ → Timed → List Arrival → List Input
feeds packets script [] = []
feeds packets script (arrival ∷ arrivals) = feeds_from packets arrival.stamp arrival.stamp 1 script (arrival ∷ arrivals)

-- the commands that are left behind the packets from the n-th on
abbrev pub rest_from : ℕ → ℕ → Timed → List Arrival → Timed
rest_from packets n script [] = script
rest_from packets n script (arrival ∷ arrivals) = rest_from packets (n + 1) (left packets (n + 1) script) arrivals
