-- The line that tells a fault of a replay, on standard error.
use Rattle.std.specs.Prelude.{ℕ, List, [], ◌∷◌, ◌++◌, codes, option_map, Option, Some, None}
use Rattle.std.specs.Fmt.{decimal}
use Rattle.ng_call.specs.Line.{fault_words}
use Rattle.ng_call.specs.declared.ended.Fault.{Fault}
use Rattle.ng_call.specs.declared.ended.Fault.TheVariants as of_run
use Rattle.ng_call.specs.declared.ended.Which.{Which}
use Rattle.ng_call.specs.declared.ended.Which.TheVariants as of
use Rattle.ng_args.specs.declared.words.ReplayWords.{ReplayWords}
use Rattle.ng_args.specs.declared.words.Words.{Words}
use Rattle.ng_replay.specs.Call.{run_of}
use Rattle.ng_replay.specs.declared.ended.Given.{Given}
use Rattle.ng_replay.specs.declared.ended.Given.TheVariants as given
use Rattle.ng_replay.specs.declared.ended.ReplayFault.{ReplayFault}
use Rattle.ng_replay.specs.declared.ended.ReplayFault.TheVariants.{Usage, Script, Capture, Journal, TooBig, ReadFault, WriteFault, No, NoMemory}

abbrev pub which_of : Given → Which
which_of given.Script = of.Script
which_of (given.Capture port) = of.Capture port
which_of given.Journal = of.Journal

-- the fault of a run that is told in the same words
abbrev pub said_as : ReplayFault → Option Fault
said_as (Script fault) = Some (of_run.Script fault)
said_as (Capture port why) = Some (of_run.Capture port why)
said_as (TooBig which) = Some (of_run.TooBig (which_of which))
said_as (ReadFault which) = Some (of_run.ReadFault (which_of which))
said_as WriteFault = Some (of_run.WriteFault of.Sink)
said_as NoMemory = Some of_run.NoMemory
said_as _ = None

-- what is said of the others
abbrev pub own_words : ReplayFault → List ℕ
own_words Usage = codes "usage: ngrun --replay BUDGET WORKERS NAME JOURNAL SCRIPT [PORT=IN ..]"
own_words (Journal line) = codes "journal line " ++ decimal line
own_words (No at) = codes "journal refused at event " ++ decimal at
own_words _ = []

abbrev pub words_by : Option Fault → ReplayFault → Option Words → List ℕ
words_by (Some same) fault words = fault_words same words
words_by None fault words = own_words fault

abbrev pub replay_words : ReplayFault → Option Words → List ℕ
replay_words fault words = words_by (said_as fault) fault words

-- `ngrun: `, what is said, and LF
abbrev pub replay_line : ReplayFault → Option ReplayWords → List ℕ
replay_line fault words = codes "ngrun: " ++ (replay_words fault (option_map run_of words) ++ 0x0a ∷ [])
