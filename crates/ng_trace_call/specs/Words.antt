-- The words of a trace: `[-b BUDGET] [-n NAME] [-j JOURNAL [-w WORKERS]] SCRIPT [PORT=IN ..]`. They are the words of a run
-- that writes no captures, so they are read as these are.
use Rattle.std.specs.Prelude.{ℕ, ◌==◌, if◌then◌else◌, List, [], ◌∷◌, ◌++◌, map, Option, Some, None}
use Rattle.ng_args.specs.Names.{is_dashed}
use Rattle.ng_args.specs.Ports.{comma}
use Rattle.ng_args.specs.Run.{words_of}
use Rattle.ng_args.specs.declared.port.PortWord.{PortWord}
use Rattle.ng_args.specs.declared.words.ReplayWords.{ReplayWords}
use Rattle.ng_args.specs.declared.words.Source.{Source}
use Rattle.ng_args.specs.declared.words.Source.TheVariants.{FromFiles, Made}
use Rattle.ng_args.specs.declared.words.Words.{Words}
use Rattle.ng_replay.specs.Call.{run_of}
use Rattle.ng_trace_call.specs.declared.words.TraceWords.{TraceWords}
use Rattle.ng_trace_call.specs.declared.words.TraceWords.TheVariants.{Follow, Plain}

-- a port that nothing is written for: `PORT=IN,`
abbrev pub with_comma : List ℕ → List ℕ
with_comma word = word ++ comma ∷ []

-- the words that a run has for those of a trace: options in front, each with its value, then the script and the ports
abbrev pub as_run : List (List ℕ) → List (List ℕ)
as_run [] = []
as_run (word ∷ []) = word ∷ []
as_run (word ∷ next ∷ words) =
    if is_dashed word then word ∷ next ∷ as_run words else word ∷ map with_comma (next ∷ words)

-- the words of a run as those of a replay
abbrev pub replay_of : Words → List ℕ → List ℕ → List PortWord → ReplayWords
replay_of words journal script ports = record {
  budget = words.budget;
  workers = words.workers;
  own_name = words.own_name;
  journal = journal;
  script = script;
  ports = ports;
}

abbrev pub unless_workers : ℕ → ReplayWords → Option TraceWords
unless_workers workers words = if workers == 0 then Some (Plain words) else None

-- with a journal it is followed; without one the run has no workers, and its journal no file
abbrev pub said_by : Words → Option (List ℕ) → Source → Option TraceWords
said_by words (Some journal) (FromFiles script ports) = Some (Follow (replay_of words journal script ports))
said_by words (Some journal) (Made packets) = None
said_by words None (FromFiles script ports) = unless_workers words.workers (replay_of words [] script ports)
said_by words None (Made packets) = None

abbrev pub if_said : Option Words → Option TraceWords
if_said None = None
if_said (Some words) = said_by words words.journal words.source

-- what a command line says, where its words are in form
abbrev pub trace_words_of : List (List ℕ) → Option TraceWords
trace_words_of words = if_said (words_of (as_run words))

-- the words of the run that they are of, which writes no journal
abbrev pub bare_of : ReplayWords → Words
bare_of words = record (run_of words) { journal = None }

-- and those of either
abbrev pub run_words : TraceWords → Words
run_words (Follow words) = run_of words
run_words (Plain words) = bare_of words
