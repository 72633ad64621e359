-- The call of a forecast, as a task: what it reads, what it looks for, the bag that it makes, what it writes.
use Rattle.std.specs.Prelude.{◌≡◌, ℕ, List, [], ◌∷◌, map, Some}
use Rattle.ng_base.specs.declared.event.Event.{Event}
use Rattle.ng_base.specs.declared.kind.Kind.{Kind}
use Rattle.ng_machine.specs.Laws.{world_after}
use Rattle.ng_machine.specs.World.{World}
use Rattle.ng_machine.specs.Spread.{Spread, spread_of_all}
use Rattle.ng_outside.specs.Contents.{Contents}
use Rattle.ng_args.specs.declared.words.ForecastWords.{ForecastWords}
use Rattle.ng_call.specs.ending.Outside.{ToSink}
use Rattle.ng_call.specs.ending.Task.{Task}
use Rattle.ng_call.specs.ending.Writes.{Write}
use Rattle.ng_call.specs.Found.{Found, IsRead, AreRead, IsTold, TellPorts}
use Rattle.ng_forecast.specs.declared.ended.ForecastFault.{ForecastFault}
use Rattle.ng_forecast.specs.declared.ended.ForecastFault.TheVariants.{Usage, Script, Capture, TooBig, ReadFault, WriteFault, NoMemory}
use Rattle.ng_forecast.specs.Steps.{setting_in, IsRun, flights_in, forecast_steps}
use Rattle.ng_forecast.specs.Text.{bag_text}

-- what is read is what the files hold, where they tell it
abbrev pub IsFound : (List ℕ → Contents) → ForecastWords → Found → Type 0
IsFound files words found = IsRead (files words.script) found.script × AreRead files words.ports found.captures

-- the files tell that they hold it
abbrev pub Tell : (List ℕ → Contents) → ForecastWords → Found → Type 0
Tell files words found = IsTold (files words.script) found.script × TellPorts files words.ports found.captures

-- the world after the commands in front of every mark
abbrev pub world_in : List Kind → ForecastWords → Found → List Event → World
world_in kinds words found journal = world_after (setting_in kinds words found) journal

-- the spreads of all packets in that world, one behind the other
abbrev pub IsBag : World → ForecastWords → Found → Spread → Type 0
IsBag w words found bag = spread_of_all w (flights_in found) words.hops ≡ Some bag

abbrev pub text_write : ForecastWords → Spread → Write ForecastFault
text_write words bag = record {
  place = ToSink;
  bytes = bag_text (map (λ port. port.name) words.ports) bag;
  failed = WriteFault;
}

abbrev pub fault_status : ForecastFault → ℕ
fault_status Usage = 64
fault_status (Script fault) = 65
fault_status (Capture port why) = 65
fault_status (TooBig source) = 65
fault_status (ReadFault source) = 66
fault_status WriteFault = 74
fault_status NoMemory = 71
fault_status _ = 4

-- The bytes that were read, and the journal of the commands in front of every mark: the plain one. There is one.
pub record ForecastInput : Type 0 where
  pub found : Found
  pub journal : List Event

module _ (kinds : List Kind) (words : ForecastWords) (input : ForecastInput) where
  -- the commands run so
  abbrev pub RunsSo : Type 0
  RunsSo = IsRun (setting_in kinds words input.found) input.journal

  -- the graph stands still in this world
  abbrev pub still_world : World
  still_world = world_in kinds words input.found input.journal

-- what a forecast makes is its bag
abbrev pub forecast_task : List Kind → Task ForecastFault Spread
forecast_task kinds = record {
  Words = ForecastWords;
  Input = ForecastInput;
  IsFound = λ files words input. IsFound files words input.found × RunsSo kinds words input;
  Tells = λ files words input. Tell files words input.found × RunsSo kinds words input;
  steps = λ words input. forecast_steps (still_world kinds words input) input.journal words input.found;
  IsPart = λ words input bag. ⊥;
  IsMade = λ words input. IsBag (still_world kinds words input) words input.found;
  writes = λ words input bag. text_write words bag ∷ [];
  status = λ words input bag. 0;
  nothing = [];
  usage = Usage;
  no_memory = NoMemory;
  fault_status = fault_status;
}
