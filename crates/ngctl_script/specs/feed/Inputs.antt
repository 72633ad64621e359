-- The list of inputs: commands by their marks, packets in the order of their times, and ticks of the clock between them.
use Rattle.std.specs.Prelude.{ℕ, ◌+◌, ◌-◌, ◌/◌, Bool, true, false, ◌==◌, min, nat_lt, if◌then◌else◌, List, [], ◌∷◌, ◌++◌, length, map, filter}
use Rattle.ng_base.specs.declared.ids.Stamp.{Stamp}
use Rattle.ng_machine.specs.declared.command.Command.{Command as CommandLine}
use Rattle.ng_machine.specs.declared.input.Input.{Input}
use Rattle.ng_machine.specs.declared.input.Input.TheVariants.{Command, Late as LateCommand, Packet, Tick}
use Rattle.ng_machine.specs.Feed.{later}
use Rattle.ngctl_script.specs.declared.when.When.{When}
use Rattle.ngctl_script.specs.declared.when.When.TheVariants.{First, Late, After}
use Rattle.ngctl_script.specs.declared.feed.arrival.Arrival.{Arrival}
use Rattle.ngctl_script.specs.feed.Merge.{Packets, merged}

-- the commands of a script, each with the time when it is fed
abbrev pub Timed : Type 0
Timed = List (When × CommandLine)

-- Commands

abbrev pub is_first : When → Bool
is_first First = true
is_first Late = false
is_first (After n) = false

abbrev pub is_late : When → Bool
is_late First = false
is_late Late = true
is_late (After n) = false

-- right behind packet n, or behind the last packet where there are fewer
abbrev pub is_after : ℕ → ℕ → When → Bool
is_after total n First = false
is_after total n Late = false
is_after total n (After place) = min place total == n

abbrev pub commands_that : (When → Bool) → Timed → List Input
commands_that test script = map (λ timed. Command timed.1) (filter (λ timed. test timed.0) script)

abbrev pub late_commands : Timed → List Input
late_commands script = map (λ timed. LateCommand timed.1) (filter (λ timed. is_late timed.0) script)

-- The clock is the greatest time so far. Seconds are counted from the first packet.

abbrev pub seconds : Stamp → Stamp → ℕ
seconds first clock = (clock.0 - first.0) / 1_000_000_000

abbrev pub tick_if : ℕ → List Input
tick_if n = if nat_lt 0 n then Tick n ∷ [] else []

-- the whole seconds that go by until a packet comes
abbrev pub ticks : Stamp → Stamp → Stamp → List Input
ticks first clock stamp = tick_if (seconds first (later clock stamp) - seconds first clock)

abbrev pub packet_input : Arrival → Input
packet_input arrival = Packet arrival.port arrival.stamp arrival.packet

-- the packets from the n-th on, each behind its tick and in front of the commands of its place
abbrev pub arrivals_from : Timed → ℕ → Stamp → Stamp → ℕ → List Arrival → List Input
arrivals_from script total first clock n [] = []
arrivals_from script total first clock n (arrival ∷ arrivals) =
    ticks first clock arrival.stamp ++ (packet_input arrival ∷ (commands_that (is_after total n) script
    ++ arrivals_from script total first (later clock arrival.stamp) (n + 1) arrivals))

abbrev pub packet_inputs : Timed → List Arrival → List Input
packet_inputs script [] = []
packet_inputs script (arrival ∷ arrivals) = arrivals_from script (length (arrival ∷ arrivals)) arrival.stamp arrival.stamp 1 (arrival ∷ arrivals)

-- the inputs of a script and of arrivals
abbrev pub inputs_with : Timed → List Arrival → List Input
inputs_with script arrivals =
    commands_that is_first script ++ (commands_that (is_after (length arrivals) 0) script ++ (packet_inputs script arrivals ++ late_commands script))

abbrev pub inputs_of : Timed → List Packets → List Input
inputs_of script captures = inputs_with script (merged captures)
