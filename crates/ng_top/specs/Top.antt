-- What the top call does: by the first word it is a run, a replay or a forecast.
use Rattle.std.specs.Prelude.{ℕ, Bool, true, false, List, [], ◌∷◌, codes, drop, Option, option_map}
use Rattle.std.specs.Str.{bytes_eq}
use Rattle.ng_base.specs.declared.kind.Kind.{Kind}
use Rattle.ng_call.specs.Behaves.{IsRunCall}
use Rattle.ng_call.specs.ending.Outside.{Outside}
use Rattle.ng_args.specs.Run.{words_of}
use Rattle.ng_args.specs.Replay.{replay_words_of}
use Rattle.ng_args.specs.Forecast.{forecast_words_of}
use Rattle.ng_call.specs.Line.{fault_line}
use Rattle.ng_replay.specs.Line.{replay_line}
use Rattle.ng_forecast.specs.Behaves.{IsForecastCall}
use Rattle.ng_forecast.specs.Line.{fault_line as forecast_line}
use Rattle.ng_top.specs.declared.top.Ran.{Ran}
use Rattle.ng_top.specs.declared.top.Ran.TheVariants.{Run, Replay, Forecast}
use Rattle.ng_replay.specs.Behaves.{IsReplayCall}

abbrev pub begins_with : List ℕ → List (List ℕ) → Bool
begins_with word [] = false
begins_with word (first ∷ words) = bytes_eq first word

abbrev pub asks_for_replay : List (List ℕ) → Bool
asks_for_replay words = begins_with (codes "--replay") words

abbrev pub asks_for_forecast : List (List ℕ) → Bool
asks_for_forecast words = begins_with (codes "--forecast") words

module _ (kinds : List Kind) (words : List (List ℕ)) (o : Outside) where
  -- a run gets all words
  abbrev pub DidRun : Ran → Type 0
  DidRun (Run ended) = IsRunCall kinds (words_of words) o ended
  DidRun _ = ⊥

  -- the others get those behind the first
  abbrev pub DidReplay : Ran → Type 0
  DidReplay (Replay replayed) = IsReplayCall kinds (replay_words_of (drop 1 words)) o replayed
  DidReplay _ = ⊥

  abbrev pub DidForecast : Ran → Type 0
  DidForecast (Forecast forecast) = IsForecastCall kinds (forecast_words_of (drop 1 words)) o forecast
  DidForecast _ = ⊥

  abbrev pub DidAsAsked : (replay forecast : Bool) → Ran → Type 0
  DidAsAsked true forecast ran = DidReplay ran
  DidAsAsked false true ran = DidForecast ran
  DidAsAsked false false ran = DidRun ran

  abbrev pub IsTop : Ran → Type 0
  IsTop ran = DidAsAsked (asks_for_replay words) (asks_for_forecast words) ran

abbrev pub status_of : Ran → ℕ
status_of (Run ended) = ended.status
status_of (Replay replayed) = replayed.status
status_of (Forecast forecast) = forecast.status

-- the line of its fault, where there is one
abbrev pub line_of : List (List ℕ) → Ran → Option (List ℕ)
line_of words (Run ended) = option_map (λ fault. fault_line fault (words_of words)) ended.fault
line_of words (Replay replayed) = option_map (λ fault. replay_line fault (replay_words_of (drop 1 words))) replayed.fault
line_of words (Forecast forecast) = option_map (λ fault. forecast_line fault (forecast_words_of (drop 1 words))) forecast.fault
