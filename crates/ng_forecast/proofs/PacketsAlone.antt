-- With no command between packets, a script and captures give the commands in front of every mark, then the packets and their
-- ticks, and then the late commands.
use Rattle.std.proofs.Common.{◌≡◌, ◌∙◌, ℕ, ◌+◌, ◌-◌, Bool, true, false, nat_lt, if◌then◌else◌, List, [], ◌∷◌, ◌++◌, length, map, filter, refl, ap, true≢false}
use Rattle.ng_base.specs.declared.ids.Stamp.{Stamp}
use Rattle.ng_machine.specs.declared.command.Command.{Command as CommandLine}
use Rattle.ng_machine.specs.declared.input.Input.{Input}
use Rattle.ng_machine.specs.declared.input.Input.TheVariants.{Command, Tick}
use Rattle.ng_machine.specs.Feed.{later}
use Rattle.ng_machine.specs.Spread.{Flight}
use Rattle.ng_machine.specs.Words.{Every}
use Rattle.ngctl_script.specs.declared.when.When.{When}
use Rattle.ngctl_script.specs.declared.when.When.TheVariants.{First, Late, After}
use Rattle.ngctl_script.specs.declared.feed.arrival.Arrival.{Arrival}
use Rattle.ngctl_script.specs.feed.Inputs.{Timed, arrivals_from, commands_that, inputs_with, is_after, is_first, late_commands, packet_input, packet_inputs, seconds, ticks}
use Rattle.ng_laws.specs.still_graph.Bag.{IsTraffic, arrivals}
use Rattle.ng_forecast.specs.Moving.{is_between}
use Rattle.ng_forecast.specs.Packets.{flight_of}
use Rattle.ng_forecast.specs.ComesTrue.{NoneBetween}
use Rattle.ng_forecast.proofs.FedInputs.{some_of}

-- NO COMMAND HAS A PLACE AMONG THE PACKETS

not_after : (total n : ℕ) (when : When) → is_between when ≡ false → is_after total n when ≡ false
not_after total n First none = refl
not_after total n Late none = refl
not_after total n (After place) none = absurd (true≢false none)

none_after : (total n : ℕ) (script : Timed) → NoneBetween script → commands_that (is_after total n) script ≡ []
none_after total n [] none = refl
none_after total n (timed ∷ script) none =
    let rest : Timed = filter (λ (other : When × CommandLine). is_after total n other.0) script in
    ap (λ (test : Bool). map (λ (other : When × CommandLine). Command other.1) (if test then timed ∷ rest else rest))
    (not_after total n timed.0 none.0)
    ∙ none_after total n script none.1

-- so they come as they come without a script
alone_from : (script : Timed) → NoneBetween script → (total : ℕ) (first clock : Stamp) (n : ℕ) (coming : List Arrival)
    → arrivals_from script total first clock n coming ≡ arrivals_from [] total first clock n coming
alone_from script none total first clock n [] = refl
alone_from script none total first clock n (arrival ∷ coming) =
    let before = ticks first clock arrival.stamp in
    let rest = arrivals_from script total first (later clock arrival.stamp) (n + 1) coming in
    ap (λ (commands : List Input). before ++ (packet_input arrival ∷ (commands ++ rest))) (none_after total n script none)
    ∙ ap (λ (inputs : List Input). before ++ (packet_input arrival ∷ inputs))
    (alone_from script none total first (later clock arrival.stamp) (n + 1) coming)

packets_alone : (script : Timed) → NoneBetween script → (coming : List Arrival) → packet_inputs script coming ≡ packet_inputs [] coming
packets_alone script none [] = refl
packets_alone script none (arrival ∷ coming) =
    alone_from script none (length (arrival ∷ coming)) arrival.stamp arrival.stamp 1 (arrival ∷ coming)

pub in_three : (script : Timed) → NoneBetween script → (coming : List Arrival)
    → inputs_with script coming ≡ commands_that is_first script ++ (packet_inputs script coming ++ late_commands script)
in_three script none coming =
    ap (λ (commands : List Input). commands_that is_first script ++ (commands ++ (packet_inputs script coming ++ late_commands script)))
    (none_after (length coming) 0 script none)

-- THE PACKETS

-- a tick is traffic, and no packet

tick_traffic : (test : Bool) (n : ℕ) (inputs : List Input) → Every IsTraffic (some_of inputs)
    → Every IsTraffic (some_of ((if test then Tick n ∷ [] else []) ++ inputs))
tick_traffic true n inputs rest = (tt, rest)
tick_traffic false n inputs rest = rest

tick_arrivals : (test : Bool) (n : ℕ) (inputs : List Input)
    → arrivals (some_of ((if test then Tick n ∷ [] else []) ++ inputs)) ≡ arrivals (some_of inputs)
tick_arrivals true n inputs = refl
tick_arrivals false n inputs = refl

traffic_from : (total : ℕ) (first clock : Stamp) (n : ℕ) (coming : List Arrival)
    → Every IsTraffic (some_of (arrivals_from [] total first clock n coming))
traffic_from total first clock n [] = tt
traffic_from total first clock n (arrival ∷ coming) =
    let passed = seconds first (later clock arrival.stamp) - seconds first clock in
    tick_traffic (nat_lt 0 passed) passed _ (tt, traffic_from total first (later clock arrival.stamp) (n + 1) coming)

arrivals_alone : (total : ℕ) (first clock : Stamp) (n : ℕ) (coming : List Arrival)
    → arrivals (some_of (arrivals_from [] total first clock n coming)) ≡ map flight_of coming
arrivals_alone total first clock n [] = refl
arrivals_alone total first clock n (arrival ∷ coming) =
    let passed = seconds first (later clock arrival.stamp) - seconds first clock in
    tick_arrivals (nat_lt 0 passed) passed _
    ∙ ap (λ (flights : List Flight). flight_of arrival ∷ flights) (arrivals_alone total first (later clock arrival.stamp) (n + 1) coming)

none_traffic : (coming : List Arrival) → Every IsTraffic (some_of (packet_inputs [] coming))
none_traffic [] = tt
none_traffic (arrival ∷ coming) = traffic_from (length (arrival ∷ coming)) arrival.stamp arrival.stamp 1 (arrival ∷ coming)

none_arrivals : (coming : List Arrival) → arrivals (some_of (packet_inputs [] coming)) ≡ map flight_of coming
none_arrivals [] = refl
none_arrivals (arrival ∷ coming) = arrivals_alone (length (arrival ∷ coming)) arrival.stamp arrival.stamp 1 (arrival ∷ coming)

pub are_traffic : (script : Timed) → NoneBetween script → (coming : List Arrival) → Every IsTraffic (some_of (packet_inputs script coming))
are_traffic script none coming = rw (packets_alone script none coming) (none_traffic coming)

pub are_flights : (script : Timed) → NoneBetween script → (coming : List Arrival)
    → arrivals (some_of (packet_inputs script coming)) ≡ map flight_of coming
are_flights script none coming = ap (λ (inputs : List Input). arrivals (some_of inputs)) (packets_alone script none coming) ∙ none_arrivals coming
