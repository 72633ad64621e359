-- What the parts of a forecast promise each other.
use Rattle.std.specs.Prelude.{◌≡◌, ◌⊎◌, ℕ, List, Some, None}
use Rattle.ng_base.specs.declared.event.Event.{Event}
use Rattle.ng_base.specs.declared.kind.Kind.{Kind}
use Rattle.ng_machine.specs.Laws.{world_after}
use Rattle.ng_machine.specs.Spread.{Spread, Flight, spread_of_all}
use Rattle.ng_outside.specs.Contents.{Contents, NotTold}
use Rattle.ng_pcap.specs.declared.capture.Capture.{Capture as ReadCapture}
use Rattle.ngctl_script.specs.Script.{commands_of}
use Rattle.ngctl_script.specs.feed.Inputs.{Timed}
use Rattle.ng_args.specs.declared.words.ForecastWords.{ForecastWords}
use Rattle.ng_call.specs.ending.Outside.{Outside}
use Rattle.ng_call.specs.ending.Steps.{Step, first_fault, Refuses}
use Rattle.ng_call.specs.declared.ended.Fault.{Fault}
use Rattle.ng_call.specs.declared.ended.Fault.TheVariants as run
use Rattle.ng_call.specs.declared.ended.Which.{Which}
use Rattle.ng_call.specs.declared.ended.Which.TheVariants as file
use Rattle.ng_call.specs.Found.{Found, captures_in}
use Rattle.ng_call.specs.Parts.{AreAllWritable}
use Rattle.ng_forecast.specs.declared.ended.ForecastFault.{ForecastFault}
use Rattle.ng_forecast.specs.declared.ended.ForecastFault.TheVariants.{Usage, Script, Capture, TooBig, ReadFault, WriteFault, NoMemory}
use Rattle.ng_forecast.specs.declared.ended.Source.{Source}
use Rattle.ng_forecast.specs.declared.ended.Source.TheVariants as of
use Rattle.ng_forecast.specs.Steps.{setting_of, setting_in, IsRun, read_steps, late_steps, forecast_steps}
use Rattle.ng_forecast.specs.Call.{IsFound, IsBag, world_in}

-- A fault of reading as a run tells it, in the words of a forecast, which reads no other files than these two.

abbrev pub source_of : Which → Source
source_of (file.Capture p) = of.Capture p
source_of _ = of.Script

abbrev pub fault_of : Fault → ForecastFault
fault_of run.Usage = Usage
fault_of (run.Script fault) = Script fault
fault_of (run.Capture p why) = Capture p why
fault_of (run.TooBig which) = TooBig (source_of which)
fault_of (run.ReadFault which) = ReadFault (source_of which)
fault_of (run.WriteFault which) = WriteFault
fault_of run.NoMemory = NoMemory

-- files of which nothing is told
abbrev pub untold : List ℕ → Contents
untold name = NotTold

-- the fault has its cause in these steps, or memory ran out
abbrev pub Stops : Outside → List (Step ForecastFault) → ForecastFault → Type 0
Stops o steps fault = (fault ≡ NoMemory) ⊎ Refuses o steps fault

-- the script and the captures were read, and no command stands between packets
pub record IsReadIn (files : List ℕ → Contents) (words : ForecastWords) (script : Timed) (captures : List ReadCapture) : Type 0 where
  pub found : Found
  pub is_found : IsFound files words found
  pub fine : first_fault files (read_steps words found) ≡ None
  pub script_is : script ≡ commands_of found.script
  pub captures_are : captures ≡ captures_in found.captures
  pub writable : AreAllWritable captures

abbrev pub ReadStops : Outside → ForecastWords → ForecastFault → Type 0
ReadStops o words fault = (found : Found) × IsFound o.old.files words found × Stops o (read_steps words found) fault

-- the commands were run, and no fault is there in the run and the packets: the bag is that of the packets
pub record IsForetoldOf (kinds : List Kind) (words : ForecastWords) (script : Timed) (flights : List Flight) (bag : Spread) : Type 0 where
  pub journal : List Event
  pub is_run : IsRun (setting_of kinds words script) journal
  pub fine : first_fault untold (late_steps (world_after (setting_of kinds words script) journal) journal words.hops flights) ≡ None
  pub bag_is : spread_of_all (world_after (setting_of kinds words script) journal) flights words.hops ≡ Some bag

-- a fault is there, or memory ran out
pub record IsRefusedOf (kinds : List Kind) (words : ForecastWords) (script : Timed) (flights : List Flight) (fault : ForecastFault) : Type 0 where
  pub journal : List Event
  pub is_run : IsRun (setting_of kinds words script) journal
  pub cause : (fault ≡ NoMemory)
      ⊎ (first_fault untold (late_steps (world_after (setting_of kinds words script) journal) journal words.hops flights) ≡ Some fault)

-- the bag is made of what was read, and no fault is there
pub record IsForetold (kinds : List Kind) (files : List ℕ → Contents) (words : ForecastWords) (bag : Spread) : Type 0 where
  pub found : Found
  pub is_found : IsFound files words found
  pub journal : List Event
  pub is_run : IsRun (setting_in kinds words found) journal
  pub fine : first_fault files (forecast_steps (world_in kinds words found journal) journal words found) ≡ None
  pub bag_is : IsBag (world_in kinds words found journal) words found bag

-- a fault is there, or memory ran out
pub record IsNotForetold (kinds : List Kind) (o : Outside) (words : ForecastWords) (fault : ForecastFault) : Type 0 where
  pub found : Found
  pub is_found : IsFound o.old.files words found
  pub journal : List Event
  pub is_run : IsRun (setting_in kinds words found) journal
  pub stops : Stops o (forecast_steps (world_in kinds words found journal) journal words found) fault
