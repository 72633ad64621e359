-- The line that tells a fault of a forecast, on standard error.
use Rattle.std.specs.Prelude.{ℕ, List, [], ◌++◌, codes, slice_get, Option, Some, None}
use Rattle.std.specs.Fmt.{decimal}
use Rattle.ng_args.specs.declared.port.PortWord.{PortWord}
use Rattle.ng_args.specs.declared.words.ForecastWords.{ForecastWords}
use Rattle.ng_call.specs.Line.{script_words, capture_words, port_name, in_name, shown, line_feed}
use Rattle.ng_forecast.specs.declared.ended.ForecastFault.{ForecastFault}
use Rattle.ng_forecast.specs.declared.ended.ForecastFault.TheVariants.{Usage, Script, Capture, TooBig, ReadFault, WriteFault, Moving, Restless, Wide, Undefined, Big, NoMemory}
use Rattle.ng_forecast.specs.declared.ended.Source.{Source}
use Rattle.ng_forecast.specs.declared.ended.Source.TheVariants as of

abbrev pub usage_words : List ℕ
usage_words = codes "usage: ngrun --forecast HOPS NAME SCRIPT [PORT=IN ..]"

-- the files that the words name; a name that they do not have is empty

abbrev pub script_named : Option ForecastWords → List ℕ
script_named None = []
script_named (Some words) = words.script

abbrev pub ports_named : Option ForecastWords → List PortWord
ports_named None = []
ports_named (Some words) = words.ports

abbrev pub file_name : Source → Option ForecastWords → List ℕ
file_name of.Script words = script_named words
file_name (of.Capture p) words = in_name (slice_get (ports_named words) p)

abbrev pub refused : List ℕ → List ℕ
refused why = codes "forecast refused: " ++ why

-- what is said behind `ngrun: `
abbrev pub fault_words : ForecastFault → Option ForecastWords → List ℕ
fault_words Usage words = usage_words
fault_words (Script fault) words = script_words fault
fault_words (Capture p why) words = codes "capture " ++ (port_name (slice_get (ports_named words) p) ++ (codes ": " ++ capture_words why))
fault_words (TooBig source) words = codes "too big: " ++ shown (file_name source words)
fault_words (ReadFault source) words = codes "can't read " ++ shown (file_name source words)
fault_words WriteFault words = codes "can't write output"
fault_words (Moving command) words = refused (codes "moving at command " ++ decimal command)
fault_words Restless words = refused (codes "restless")
fault_words (Wide packet) words = refused (codes "wide at packet " ++ decimal packet)
fault_words (Undefined packet) words = refused (codes "undefined at packet " ++ decimal packet)
fault_words (Big packet) words = refused (codes "big at packet " ++ decimal packet)
fault_words NoMemory words = codes "out of memory"

abbrev pub fault_line : ForecastFault → Option ForecastWords → List ℕ
fault_line fault words = codes "ngrun: " ++ (fault_words fault words ++ line_feed)
