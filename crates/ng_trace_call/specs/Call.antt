-- What a trace is to do, as a task: it reads and judges what a replay of the same words reads and judges, and where the
-- journal is accepted writes the text of its trace.
use Rattle.std.specs.Prelude.{ℕ, List, [], ◌∷◌, map}
use Rattle.ng_base.specs.declared.kind.Kind.{Kind}
use Rattle.ng_args.specs.declared.words.ReplayWords.{ReplayWords}
use Rattle.ng_call.specs.ending.Task.{Task}
use Rattle.ng_call.specs.ending.Writes.{Write}
use Rattle.ng_call.specs.Run.{setting_in}
use Rattle.ng_replay.specs.judge.Verdict.{IsVerdict}
use Rattle.ng_replay.specs.declared.judge.verdict.Verdict.{Verdict}
use Rattle.ng_replay.specs.declared.judge.verdict.Verdict.TheVariants as says
use Rattle.ng_replay.specs.Call.{AllFound, IsAllFound, TellAll, events_in, fault_by, run_of, steps_in, text_write}
use Rattle.ng_replay.specs.Faults.{fault_status, status_of}
use Rattle.ng_replay.specs.declared.ended.ReplayFault.{ReplayFault}
use Rattle.ng_replay.specs.declared.ended.ReplayFault.TheVariants.{Usage, NoMemory}
use Rattle.ng_trace.specs.Trace.{trace_of}

abbrev pub names_in : ReplayWords → List (List ℕ)
names_in words = map (λ port. port.name) words.ports

-- the trace of the journal, of the machine's run over what was read
abbrev pub text_in : List Kind → ReplayWords → AllFound → List ℕ
text_in kinds words found =
    trace_of (names_in words) (setting_in kinds (run_of words) found.given) (events_in found)

abbrev pub writes_by : List Kind → ReplayWords → AllFound → Verdict → List (Write ReplayFault)
writes_by kinds words found says.Yes = text_write (text_in kinds words found) ∷ []
writes_by kinds words found (says.No at) = []

-- what the run of a trace makes is the verdict
abbrev pub trace_task : List Kind → Task ReplayFault Verdict
trace_task kinds = record {
  Words = ReplayWords;
  Input = AllFound;
  IsFound = IsAllFound;
  Tells = TellAll;
  steps = steps_in;
  IsPart = λ words found verdict. Unit {0};
  IsMade = λ words found. IsVerdict (setting_in kinds (run_of words) found.given) (events_in found);
  writes = writes_by kinds;
  status = λ words found verdict. status_of (fault_by verdict);
  nothing = says.Yes;
  usage = Usage;
  no_memory = NoMemory;
  fault_status = fault_status;
}
