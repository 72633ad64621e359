-- What a forecast looks for, in order: in the script, in the captures, in the run of the commands, in each packet.
use Rattle.std.specs.Prelude.{ℕ, if◌then◌else◌, List, [], ◌∷◌, ◌++◌, map, option_map, Option, Some, None}
use Rattle.ng_base.specs.declared.event.Event.{Event}
use Rattle.ng_base.specs.declared.kind.Kind.{Kind}
use Rattle.ng_machine.specs.Laws.{Setting, start}
use Rattle.ng_machine.specs.Plain.{IsPlain}
use Rattle.ng_machine.specs.World.{World}
use Rattle.ng_machine.specs.Spread.{Flight}
use Rattle.ng_pcap.specs.declared.capture.Capture.{Capture}
use Rattle.ngctl_script.specs.Script.{commands_of}
use Rattle.ngctl_script.specs.feed.Inputs.{Timed, commands_that, is_first}
use Rattle.ngctl_script.specs.feed.Merge.{merged}
use Rattle.ng_table.specs.reading.Reading.{given}
use Rattle.ng_args.specs.declared.words.ForecastWords.{ForecastWords}
use Rattle.ng_call.specs.ending.Steps.{Step, Checks}
use Rattle.ng_call.specs.Found.{Found, captures_in}
use Rattle.ng_call.specs.Steps.{Names, script_steps, capture_steps}
use Rattle.ng_call.specs.Writes.{is_stopped}
use Rattle.ng_forecast.specs.declared.ended.ForecastFault.{ForecastFault}
use Rattle.ng_forecast.specs.declared.ended.ForecastFault.TheVariants.{Script, Capture as WrongCapture, TooBig, ReadFault, Moving, Restless}
use Rattle.ng_forecast.specs.declared.ended.Source.TheVariants as of
use Rattle.ng_forecast.specs.Moving.{moving}
use Rattle.ng_forecast.specs.Packets.{packet_fault, flight_of}

abbrev pub names : Names ForecastFault
names = record {
  unreadable_script = ReadFault of.Script;
  big_script = TooBig of.Script;
  wrong_script = λ fault. Script fault;
  unreadable_capture = λ p. ReadFault (of.Capture p);
  big_capture = λ p. TooBig (of.Capture p);
  wrong_capture = λ p why. WrongCapture p why;
}

-- the run of the commands in front of every mark, by one seat, with blank nodes of these kinds
abbrev pub most_applied : ℕ
most_applied = 1000000

abbrev pub setting_of : List Kind → ForecastWords → Timed → Setting
setting_of kinds words script = record {
  own = words.own_name;
  ports = map (λ port. port.name) words.ports;
  stock = kinds;
  given = given (commands_that is_first script);
  budget = most_applied;
  seats = 1;
}

abbrev pub setting_in : List Kind → ForecastWords → Found → Setting
setting_in kinds words found = setting_of kinds words (commands_of found.script)

-- it does one thing after another: there is one such journal
abbrev pub IsRun : Setting → List Event → Type 0
IsRun s journal = IsPlain (start s) s.given s.budget journal

-- the packets of the captures, in the order in which they come
abbrev pub flights_of : List Capture → List Flight
flights_of captures = map flight_of (merged (map (λ capture. capture.kept) captures))

abbrev pub flights_in : Found → List Flight
flights_in found = flights_of (captures_in found.captures)

-- the run stopped at its limit
abbrev pub restless : List Event → Option ForecastFault
restless journal = if is_stopped journal then Some Restless else None

-- the script, no command between packets, and the captures
abbrev pub read_steps : ForecastWords → Found → List (Step ForecastFault)
read_steps words found =
    (script_steps names words.script found.script ++ Checks (option_map (λ command. Moving command) (moving (commands_of found.script))) ∷ [])
    ++ capture_steps names 0 0 0 words.ports found.captures

-- the run of the commands, and the packets in the world after it
abbrev pub late_steps : World → List Event → ℕ → List Flight → List (Step ForecastFault)
late_steps w journal hops flights = Checks (restless journal) ∷ Checks (packet_fault w.nodes hops flights) ∷ []

abbrev pub forecast_steps : World → List Event → ForecastWords → Found → List (Step ForecastFault)
forecast_steps w journal words found = read_steps words found ++ late_steps w journal words.hops (flights_in found)
