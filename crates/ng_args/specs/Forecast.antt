-- The words of a forecast, behind `--forecast`: `HOPS NAME SCRIPT [PORT=IN ..]`.
use Rattle.std.specs.Prelude.{ℕ, if◌then◌else◌, List, ◌∷◌, Option, Some, None}
use Rattle.ng_args.specs.declared.port.PortWord.{PortWord}
use Rattle.ng_args.specs.declared.port.PortForm.TheVariants.{InAlone}
use Rattle.ng_args.specs.declared.words.ForecastWords.{ForecastWords}
use Rattle.ng_decimal.specs.Decimal.{number_from}
use Rattle.ng_args.specs.Names.{node_name, file_name}
use Rattle.ng_args.specs.Lists.{are_undashed}
use Rattle.ng_args.specs.Ports.{ports_of}
use Rattle.ng_args.specs.Together.{are_ports}

abbrev pub forecast_said : Option ℕ → Option (List ℕ) → Option (List ℕ) → Option (List PortWord) → Option ForecastWords
forecast_said (Some hops) (Some own) (Some script) (Some ports) = Some (record { hops = hops; own_name = own; script = script; ports = ports })
forecast_said _ _ _ _ = None

-- what the words say, each by itself
abbrev pub forecast_parts : List (List ℕ) → Option ForecastWords
forecast_parts (hops ∷ own ∷ script ∷ ports) = forecast_said (number_from 1 64 hops) (node_name own) (file_name script) (ports_of InAlone ports)
forecast_parts _ = None

-- names of nodes differ
abbrev pub if_forecast_words : Option ForecastWords → Option ForecastWords
if_forecast_words None = None
if_forecast_words (Some words) = if are_ports words.own_name words.ports then Some words else None

abbrev pub forecast_words_of : List (List ℕ) → Option ForecastWords
forecast_words_of words = if are_undashed words then if_forecast_words (forecast_parts words) else None
