-- How a forecast ends: its status, its bag, its fault, and what was written.
use Rattle.std.specs.Prelude.{◌≡◌, ℕ, List, [], Option, Some, None}
use Rattle.ng_base.specs.declared.kind.Kind.{Kind}
use Rattle.ng_machine.specs.Spread.{Spread}
use Rattle.ng_args.specs.declared.words.ForecastWords.{ForecastWords}
use Rattle.ng_call.specs.ending.Outside.{Outside, Same}
use Rattle.ng_call.specs.ending.Task.{EndsBy}
use Rattle.ng_forecast.specs.declared.ended.ForecastFault.{ForecastFault}
use Rattle.ng_forecast.specs.declared.ended.ForecastFault.TheVariants.{NoMemory}
use Rattle.ng_forecast.specs.Call.{fault_status, forecast_task}

abbrev pub status_of : Option ForecastFault → ℕ
status_of None = 0
status_of (Some fault) = fault_status fault

-- with a fault no bag is handed out
abbrev pub handed : Option ForecastFault → Spread → Spread
handed None bag = bag
handed (Some fault) bag = []

-- the call made this bag, and ends so with it, and hands it out where all went well
pub record ForecastEnds (kinds : List Kind) (said : Option ForecastWords) (o : Outside)
    (status : ℕ) (bag : Spread) (fault : Option ForecastFault) : Type 0 where
  pub made : Spread
  pub ends : EndsBy (forecast_task kinds) said o status made fault
  pub bag_is : bag ≡ handed fault made
  pub unwritten : fault ≡ Some NoMemory → Same o.old o.now  -- where memory ran out
