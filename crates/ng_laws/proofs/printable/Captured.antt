-- The packets among the inputs are those of the captures, and what holds of them there holds of the inputs.
use Rattle.std.proofs.Common.{ℕ, zero, suc, ◌+◌, ◌-◌, ◌<◌, ◌≤◌, Bool, List, [], ◌∷◌, ◌++◌, length, map, filter, inl, inr, arith}
use Rattle.std.specs.Prelude.{nat_lt, nat_le, Option, Some, None}
use Rattle.std.proofs.lemmas.Bool.{cases_Bool}
use Rattle.ng_base.specs.declared.ids.Stamp.{Stamp}
use Rattle.ng_machine.specs.declared.command.Command.{Command as CommandLine}
use Rattle.ng_machine.specs.declared.input.Input.{Input}
use Rattle.ng_machine.specs.declared.input.Input.TheVariants.{Command as Fed, Late as FedLate, Tick}
use Rattle.ng_machine.specs.Feed.{later}
use Rattle.ng_machine.specs.Words.{Every}
use Rattle.ng_machine.proofs.Every.{every_filter}
use Rattle.ngctl_script.specs.declared.when.When.{When}
use Rattle.ngctl_script.specs.declared.feed.arrival.Arrival.{Arrival}
use Rattle.ngctl_script.specs.feed.Merge.{Packets, earlier, next_from, without_first, without_next, packet_count, taken, merged_in, merged}
use Rattle.ngctl_script.specs.feed.Inputs.{Timed, is_first, is_late, is_after, commands_that, late_commands, seconds, tick_if, ticks, packet_input, arrivals_from, packet_inputs, inputs_with}

-- Packets

module _ (P : Stamp × List ℕ → Type 0) (ports : ℕ) where
  abbrev AllMeet : List Packets → Type 0
  AllMeet captures = Every (λ (packets : Packets). Every P packets) captures

  -- the packet meets P, and comes by one of the ports
  abbrev pub Meets : Arrival → Type 0
  Meets arrival = P (arrival.stamp, arrival.packet) × (arrival.port < ports)

  abbrev NextMeets : Option Arrival → Type 0
  NextMeets None = Unit {0}
  NextMeets (Some arrival) = Meets arrival

  earlier_meets : (arrival : Arrival) (next : Option Arrival) → Meets arrival → NextMeets next → NextMeets (earlier arrival next)
  earlier_meets arrival None one other = one
  earlier_meets arrival (Some next) one other = elim (cases_Bool (nat_le arrival.stamp.0 next.stamp.0)) [
    | inl is ↦ rw is one
    | inr not ↦ rw not other
  ]

  next_meets : (port : ℕ) (captures : List Packets) → port + length captures ≤ ports → AllMeet captures → NextMeets (next_from port captures)
  next_meets port [] within all = tt
  next_meets port ([] ∷ captures) within all = next_meets (port + 1) captures (omega arith) all.1
  next_meets port ((packet ∷ packets) ∷ captures) within all =
      earlier_meets (record { port = port; stamp = packet.0; packet = packet.1 }) (next_from (port + 1) captures) (all.0.0, omega arith)
      (next_meets (port + 1) captures (omega arith) all.1)

  first_gone : (packets : Packets) → Every P packets → Every P (without_first packets)
  first_gone [] all = tt
  first_gone (packet ∷ packets) all = all.1

  rest_meets : (port : ℕ) (captures : List Packets) → AllMeet captures → AllMeet (without_next port captures)
  rest_meets port [] all = tt
  rest_meets zero (packets ∷ captures) all = (first_gone packets all.0, all.1)
  rest_meets (suc port) (packets ∷ captures) all = (all.0, rest_meets port captures all.1)

  rest_count : (port : ℕ) (captures : List Packets) → length (without_next port captures) ≤ length captures
  rest_count port [] = omega arith
  rest_count zero (packets ∷ captures) = omega arith
  rest_count (suc port) (packets ∷ captures) = let less = rest_count port captures in omega arith

  taken_meet : (captures : List Packets) (rest : List Packets → List Arrival) (next : Option Arrival) → length captures ≤ ports → AllMeet captures
      → ((others : List Packets) → length others ≤ ports → AllMeet others → Every Meets (rest others)) → NextMeets next
      → Every Meets (taken captures rest next)
  taken_meet captures rest None within all behind one = tt
  taken_meet captures rest (Some arrival) within all behind one =
      let fewer = rest_count arrival.port captures in
      (one, behind (without_next arrival.port captures) (omega arith) (rest_meets arrival.port captures all))

  merged_meet : (turns : ℕ) (captures : List Packets) → length captures ≤ ports → AllMeet captures → Every Meets (merged_in turns captures)
  merged_meet zero captures within all = tt
  merged_meet (suc turns) captures within all =
      taken_meet captures (λ rest. merged_in turns rest) (next_from 0 captures) within all (λ others less more. merged_meet turns others less more)
      (next_meets 0 captures (omega arith) all)

  pub arrivals_meet : (captures : List Packets) → length captures ≤ ports → AllMeet captures → Every Meets (merged captures)
  arrivals_meet captures within all = merged_meet (packet_count captures) captures within all

-- Inputs

module _ (Q : Input → Type 0) where
  abbrev AllAre : List Input → Type 0
  AllAre inputs = Every Q inputs

  abbrev pub IsFit : When × CommandLine → Type 0
  IsFit timed = Q (Fed timed.1) × Q (FedLate timed.1)

  abbrev Brings : Arrival → Type 0
  Brings arrival = Q (packet_input arrival)

  both : (a b : List Input) → AllAre a → AllAre b → AllAre (a ++ b)
  both [] b first second = second
  both (input ∷ a) b first second = (first.0, both a b first.1 second)

  commands_are : (script : Timed) → Every IsFit script → AllAre (map (λ timed. Fed timed.1) script)
  commands_are [] fit = tt
  commands_are (timed ∷ script) fit = (fit.0.0, commands_are script fit.1)

  late_are : (script : Timed) → Every IsFit script → AllAre (map (λ timed. FedLate timed.1) script)
  late_are [] fit = tt
  late_are (timed ∷ script) fit = (fit.0.1, late_are script fit.1)

  module _ (tick : (n : ℕ) → Q (Tick n)) (script : Timed) (fit : Every IsFit script) where
    tick_is : (n : ℕ) → AllAre (tick_if n)
    tick_is n = elim (cases_Bool (nat_lt 0 n)) [ inl is ↦ rw is (tick n, tt) | inr not ↦ rw not tt ]

    those_are : (test : When → Bool) → AllAre (commands_that test script)
    those_are test = commands_are (filter (λ timed. test timed.0) script) (every_filter IsFit (λ timed. test timed.0) script fit)

    from_are : (total : ℕ) (first clock : Stamp) (n : ℕ) (arrivals : List Arrival) → Every Brings arrivals
        → AllAre (arrivals_from script total first clock n arrivals)
    from_are total first clock n [] all = tt
    from_are total first clock n (arrival ∷ arrivals) all =
        let behind = arrivals_from script total first (later clock arrival.stamp) (n + 1) arrivals in
        both (ticks first clock arrival.stamp) (packet_input arrival ∷ (commands_that (is_after total n) script ++ behind))
        (tick_is (seconds first (later clock arrival.stamp) - seconds first clock)) (
          all.0,
          both (commands_that (is_after total n) script) behind (those_are (is_after total n))
              (from_are total first (later clock arrival.stamp) (n + 1) arrivals all.1),
        )

    packets_are : (arrivals : List Arrival) → Every Brings arrivals → AllAre (packet_inputs script arrivals)
    packets_are [] all = tt
    packets_are (arrival ∷ arrivals) all = from_are (length (arrival ∷ arrivals)) arrival.stamp arrival.stamp 1 (arrival ∷ arrivals) all

    pub inputs_are : (arrivals : List Arrival) → Every Brings arrivals → AllAre (inputs_with script arrivals)
    inputs_are arrivals all =
        let late = late_commands script in
        let middle = packet_inputs script arrivals ++ late in
        let behind = commands_that (is_after (length arrivals) 0) script in
        both (commands_that is_first script) (behind ++ middle) (those_are is_first)
        (both behind middle (those_are (is_after (length arrivals) 0))
        (both (packet_inputs script arrivals) late (packets_are arrivals all)
        (late_are (filter (λ timed. is_late timed.0) script) (every_filter IsFit (λ timed. is_late timed.0) script fit))))
