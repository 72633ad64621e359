-- What a trace without a journal is to do, as a task: it reads a script and captures, makes their run without workers, and
-- writes the text of its trace.
use Rattle.std.specs.Prelude.{◌≡◌, ℕ, List, [], ◌∷◌, ◌++◌, Option, Some}
use Rattle.ng_base.specs.declared.event.Event.{Event}
use Rattle.ng_base.specs.declared.kind.Kind.{Kind}
use Rattle.ng_args.specs.declared.words.ReplayWords.{ReplayWords}
use Rattle.ng_args.specs.declared.words.Source.TheVariants.{FromFiles}
use Rattle.ng_call.specs.Call as run
use Rattle.ng_call.specs.Found.{Found}
use Rattle.ng_call.specs.Run.{IsRun, setting_in}
use Rattle.ng_call.specs.Steps.{capture_steps, script_steps}
use Rattle.ng_call.specs.ending.Behaves.{Behaves}
use Rattle.ng_call.specs.ending.Outside.{Outside}
use Rattle.ng_call.specs.ending.Steps.{Step}
use Rattle.ng_call.specs.ending.Task.{EndsWith, Task}
use Rattle.ng_replay.specs.Call.{names, run_of, text_write}
use Rattle.ng_replay.specs.Parts.{Stops}
use Rattle.ng_replay.specs.Faults.{fault_status, status_of}
use Rattle.ng_replay.specs.declared.ended.Replayed.{Replayed}
use Rattle.ng_replay.specs.declared.ended.ReplayFault.{ReplayFault}
use Rattle.ng_replay.specs.declared.ended.ReplayFault.TheVariants.{NoMemory, Usage}
use Rattle.ng_trace.specs.Trace.{trace_of}
use Rattle.ng_trace_call.specs.Call.{names_in}

-- the script first, and each capture in order
abbrev pub plain_steps : ReplayWords → Found → List (Step ReplayFault)
plain_steps words found =
    script_steps names words.script found.script ++ capture_steps names 0 0 0 words.ports found.captures

-- what the run makes is its journal
abbrev pub plain_task : List Kind → Task ReplayFault (List Event)
plain_task kinds = record {
  Words = ReplayWords;
  Input = Found;
  IsFound = λ files words found. run.IsFound files (FromFiles words.script words.ports) found;
  Tells = λ files words found. run.Tell files (FromFiles words.script words.ports) found;
  steps = plain_steps;
  IsPart = λ words found journal. ⊥;
  IsMade = λ words found. IsRun (setting_in kinds (run_of words) found) words.workers;
  writes = λ words found journal.
      text_write (trace_of (names_in words) (setting_in kinds (run_of words) found) journal) ∷ [];
  status = λ words found journal. 0;
  nothing = [];
  usage = Usage;
  no_memory = NoMemory;
  fault_status = fault_status;
}

-- a fault of the files, or memory that ran out
abbrev pub PlainStops : Outside → ReplayWords → ReplayFault → Type 0
PlainStops o words fault =
    (found : Found) × run.IsFound o.old.files (FromFiles words.script words.ports) found
    × Stops o (plain_steps words found) fault

-- the ends of a call with these words
pub record PlainEnds (kinds : List Kind) (words : ReplayWords) (o : Outside) (fault : Option ReplayFault)
    : Type 0 where
  pub journal : List Event
  pub ends : EndsWith (plain_task kinds) words o (status_of fault) journal fault

-- what holds of each call with these words
pub record IsPlainCall (kinds : List Kind) (words : ReplayWords) (o : Outside) (traced : Replayed) : Type 0 where
  pub journal : List Event
  pub behaves : Behaves (plain_task kinds) (Some words) o traced.status journal traced.fault
  pub status_is : traced.status ≡ status_of traced.fault
