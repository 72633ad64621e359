-- The line that tells a fault of a trace, on standard error.
use Rattle.std.specs.Prelude.{ℕ, List, [], ◌∷◌, ◌++◌, codes, option_map, Option, Some, None}
use Rattle.ng_args.specs.declared.words.Words.{Words}
use Rattle.ng_call.specs.Line.{fault_words}
use Rattle.ng_call.specs.declared.ended.Fault.{Fault}
use Rattle.ng_replay.specs.Line.{own_words as replay_words, said_as}
use Rattle.ng_replay.specs.declared.ended.ReplayFault.{ReplayFault}
use Rattle.ng_replay.specs.declared.ended.ReplayFault.TheVariants.{Usage}
use Rattle.ng_trace_call.specs.Words.{run_words}
use Rattle.ng_trace_call.specs.declared.words.TraceWords.{TraceWords}

-- what is said of a fault that no run has: that of the words, and else what a replay says
abbrev pub own_words : ReplayFault → List ℕ
own_words Usage = codes "usage: ngtrace [-b BUDGET] [-n NAME] [-j JOURNAL [-w WORKERS]] SCRIPT [PORT=IN ..]"
own_words fault = replay_words fault

abbrev pub words_by : Option Fault → ReplayFault → Option Words → List ℕ
words_by (Some same) fault words = fault_words same words
words_by None fault words = own_words fault

-- `ngtrace: `, what is said, and LF
abbrev pub trace_line : ReplayFault → Option TraceWords → List ℕ
trace_line fault words =
    codes "ngtrace: " ++ (words_by (said_as fault) fault (option_map run_words words) ++ 0x0a ∷ [])
