-- What holds of each call of a forecast, for all files and sinks, and blank nodes of all types.
use Rattle.std.specs.Prelude.{◌≡◌, ◌≢◌, List, [], Option, Some}
use Rattle.ng_base.specs.declared.kind.Kind.{Kind}
use Rattle.ng_machine.specs.Spread.{Spread}
use Rattle.ng_args.specs.declared.words.ForecastWords.{ForecastWords}
use Rattle.ng_call.specs.ending.Behaves.{Behaves, DoesAll}
use Rattle.ng_call.specs.ending.Outside.{Outside, FileRose, Same}
use Rattle.ng_forecast.specs.declared.ended.Forecast.{Forecast}
use Rattle.ng_forecast.specs.declared.ended.ForecastFault.{ForecastFault}
use Rattle.ng_forecast.specs.declared.ended.ForecastFault.TheVariants.{ReadFault, WriteFault}
use Rattle.ng_forecast.specs.declared.ended.Source.{Source}
use Rattle.ng_forecast.specs.Call.{forecast_task}
use Rattle.ng_forecast.specs.Ends.{handed, status_of}
use Rattle.ng_forecast.specs.Line.{file_name}

-- a fault of reading comes only where the count of the file that is told rose, whatever the files tell
abbrev pub ReadsNamed : Option ForecastWords → Outside → Option ForecastFault → Type 0
ReadsNamed said o fault = (source : Source) → fault ≡ Some (ReadFault source) → FileRose o (file_name source said)

-- with a fault the bag is empty, and unless the fault is that of writing nothing was written
abbrev pub IsQuiet : Outside → Spread → Option ForecastFault → Type 0
IsQuiet o bag fault = (due : ForecastFault) → fault ≡ Some due → (bag ≡ []) × (due ≢ WriteFault → Same o.old o.now)

pub record IsForecastCall (kinds : List Kind) (said : Option ForecastWords) (o : Outside)
    (forecast : Forecast) : Type 0 where
  pub made : Spread  -- the bag that was made, also where its text was not written whole
  pub behaves : Behaves (forecast_task kinds) said o forecast.status made forecast.fault
  pub bag_is : forecast.bag ≡ handed forecast.fault made
  pub status_is : forecast.status ≡ status_of forecast.fault
  -- where it ends well no fault is there, the bag is that of the spreads of all packets in the world after the
  -- commands, and the sink has grown by its text
  pub foretells : DoesAll (forecast_task kinds) said o forecast.bag forecast.fault
  pub reads : ReadsNamed said o forecast.fault
  pub quiet : IsQuiet o forecast.bag forecast.fault
  pub files : o.now.files ≡ o.old.files
