-- What a forecast tells comes true: a run without workers that loses nothing leaves it.
use Rattle.std.specs.Prelude.{◌≡◌, ℕ, ◌+◌, Bool, false, List, [], ◌++◌, map, Some}
use Rattle.std.specs.Str.{bytes_eq}
use Rattle.ng_base.specs.declared.event.Event.{Event}
use Rattle.ng_base.specs.declared.kind.Kind.{Kind}
use Rattle.ng_machine.specs.declared.input.Input.{Input}
use Rattle.ng_machine.specs.declared.place.Place.TheVariants.{Wire, Host, Reader}
use Rattle.ng_machine.specs.declared.told.Told.{Told}
use Rattle.ng_machine.specs.declared.told.Told.TheVariants as tells
use Rattle.ng_machine.specs.declared.totals.PortTotals.{PortTotals}
use Rattle.ng_machine.specs.Laws.{Setting, world_after}
use Rattle.ng_machine.specs.Spread.{Spread}
use Rattle.ng_machine.specs.Totals.{port_totals_of, totals_of}
use Rattle.ng_machine.specs.Words.{Every, times}
use Rattle.ng_machine.specs.World.{World}
use Rattle.ngctl_script.specs.Script.{commands_of}
use Rattle.ngctl_script.specs.feed.Inputs.{Timed, late_commands, packet_inputs}
use Rattle.ngctl_script.specs.feed.Merge.{merged}
use Rattle.ng_laws.specs.still_graph.Bag.{LosesNothing, Meter, in_spread, inputs_from, left_of, port_in}
use Rattle.ng_args.specs.declared.port.PortWord.{PortWord}
use Rattle.ng_args.specs.declared.words.ForecastWords.{ForecastWords}
use Rattle.ng_args.specs.declared.words.Words.{Words}
use Rattle.ng_args.specs.Run.{ports_from}
use Rattle.ng_call.specs.Found.{Found, captures_in}
use Rattle.ng_call.specs.Run as run
use Rattle.ng_call.specs.Writes.{is_stopped}
use Rattle.ng_forecast.specs.Call.{IsBag, world_in}
use Rattle.ng_forecast.specs.Moving.{is_between}
use Rattle.ng_forecast.specs.Steps.{IsRun, setting_in}
use Rattle.ng_forecast.specs.Text.{count_at}

-- What is compared

abbrev pub port_names : List PortWord → List (List ℕ)
port_names ports = map (λ port. port.name) ports

-- a run without workers, and a forecast of the same names
pub record IsForecastOf (words : Words) (said : ForecastWords) : Type 0 where
  pub alone : words.workers ≡ 0
  pub own_name : said.own_name ≡ words.own_name
  pub names : port_names said.ports ≡ port_names (ports_from words.source)

-- no command stands after a mark with a number: a `quit` is one too, since a run is fed it
abbrev pub NoneBetween : Timed → Type 0
NoneBetween script = Every (λ timed. is_between timed.0 ≡ false) script

-- How much left

-- the counts of a port: how many packets left by it, and how many went up to its host
abbrev pub totals_at : World → ℕ → PortTotals
totals_at w port = port_totals_of (port_in w.ports port)

-- how many packets came to the reader by a hook
abbrev pub is_read_by : List ℕ → Told → Bool
is_read_by hook (tells.Frame name packet) = bytes_eq hook name
is_read_by hook _ = false

abbrev pub read_by : World → List ℕ → ℕ
read_by w hook = times (is_read_by hook) w.told

-- so much more left as the bag says: of packets of the same bytes at each place, and so in the counts that are printed
pub record LeavesBag (before now : World) (bag : Spread) : Type 0 where
  pub meters : (meter : Meter) → left_of now meter ≡ left_of before meter + in_spread meter bag
  pub left : (port : ℕ) → (totals_at now port).left ≡ (totals_at before port).left + count_at (Wire port) bag
  pub up : (port : ℕ) → (totals_at now port).up ≡ (totals_at before port).up + count_at (Host port) bag
  pub read : (hook : List ℕ) → read_by now hook ≡ read_by before hook + count_at (Reader hook) bag

-- no packet was lost since too many waited or too much had left, as the text of a run tells it
pub record LostNone (w : World) : Type 0 where
  pub full : (totals_of w).full ≡ 0
  pub spool : (totals_of w).spool ≡ 0

-- The law

-- of a script and captures: what a run is fed after the commands in front of every mark
abbrev pub traffic_in : Found → List Input
traffic_in found =
    packet_inputs (commands_of found.script) (merged (map (λ capture. capture.kept) (captures_in found.captures)))

abbrev pub late_in : Found → List Input
late_in found = late_commands (commands_of found.script)

-- after so many events of a run, these feed just these inputs, in order
abbrev pub Feeds : Setting → List Event → List Event → List Input → Type 0
Feeds s before events inputs =
    inputs_from s.given (world_after s before).fed events ≡ map (λ input. Some input) inputs

module _ (kinds : List Kind) (words : Words) (said : ForecastWords) (found : Found) where
  -- the run came to its end with this journal, and the forecast with its own and this bag
  pub record AreDone (journal commands : List Event) (bag : Spread) : Type 0 where
    pub ran : run.IsRun (run.setting_in kinds words found) words.workers journal
    pub unstopped : is_stopped journal ≡ false
    pub forecast_ran : IsRun (setting_in kinds said found) commands
    pub forecast_unstopped : is_stopped commands ≡ false
    pub bag_is : IsBag (world_in kinds said found commands) said found bag

  -- the world of the run after these events, and that in which the forecast follows packets
  abbrev pub run_world : List Event → World
  run_world = run.world_in kinds words found

  abbrev pub still_world : List Event → World
  still_world = world_in kinds said found

  -- The run's journal is the forecast's, then the traffic, then the late commands; after the traffic nothing is
  -- pending. If the traffic lost nothing, the bag left by it; so it is if the text of the run tells no such loss.
  pub record ComesTrue (journal commands : List Event) (bag : Spread) : Type 0 where
    pub traffic : List Event
    pub late : List Event
    pub parts : journal ≡ commands ++ (traffic ++ late)
    pub same_world : run_world commands ≡ still_world commands
    pub feeds_traffic : Feeds (run.setting_in kinds words found) commands traffic (traffic_in found)
    pub feeds_late : Feeds (run.setting_in kinds words found) (commands ++ traffic) late (late_in found)
    pub none_late : late_in found ≡ [] → late ≡ []
    pub idle : (run_world (commands ++ traffic)).pending ≡ []
    pub leaves : LosesNothing (still_world commands) (run_world (commands ++ traffic))
        → LeavesBag (still_world commands) (run_world (commands ++ traffic)) bag
    pub none_lost :
        LostNone (run_world journal) → LosesNothing (still_world commands) (run_world (commands ++ traffic))

abbrev pub ForecastsComeTrue : Type 0
ForecastsComeTrue =
    (kinds : List Kind) (words : Words) (said : ForecastWords) (found : Found)
    (journal commands : List Event) (bag : Spread)
    → IsForecastOf words said → NoneBetween (commands_of found.script)
    → AreDone kinds words said found journal commands bag → ComesTrue kinds words said found journal commands bag
