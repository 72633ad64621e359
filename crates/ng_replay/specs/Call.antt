-- What a replay is to do, as a task: it reads a script, captures and a journal, judges the journal for the run of that
-- script and those captures, and where it is accepted writes the text of that run.
use Rattle.std.specs.Prelude.{ℕ, List, [], ◌∷◌, ◌++◌, length, Option, Some, None, Result, Ok, Err}
use Rattle.ng_base.specs.declared.event.Event.{Event}
use Rattle.ng_base.specs.declared.kind.Kind.{Kind}
use Rattle.ng_call.specs.ending.Outside.{ToSink}
use Rattle.ng_call.specs.ending.Steps.{Step, Reads, Checks}
use Rattle.ng_call.specs.ending.Task.{Task}
use Rattle.ng_call.specs.ending.Writes.{Write}
use Rattle.ng_journal.specs.Reading.{journal_of}
use Rattle.ng_replay.specs.judge.Verdict.{IsVerdict}
use Rattle.ng_replay.specs.declared.judge.verdict.Verdict.{Verdict}
use Rattle.ng_replay.specs.declared.judge.verdict.Verdict.TheVariants as says
use Rattle.ng_outside.specs.Contents.{Contents}
use Rattle.ng_call.specs.Call as run
use Rattle.ng_call.specs.Found.{Found, IsRead, IsTold}
use Rattle.ng_call.specs.Run.{setting_in}
use Rattle.ng_call.specs.Steps.{Names, script_steps, capture_steps, over}
use Rattle.ng_call.specs.Writes.{text_in}
use Rattle.ng_args.specs.declared.words.ReplayWords.{ReplayWords}
use Rattle.ng_args.specs.declared.words.Source.TheVariants.{FromFiles}
use Rattle.ng_args.specs.declared.words.Words.{Words}
use Rattle.ng_replay.specs.Faults.{fault_status, status_of}
use Rattle.ng_replay.specs.declared.ended.Given.TheVariants as given
use Rattle.ng_replay.specs.declared.ended.ReplayFault.{ReplayFault}
use Rattle.ng_replay.specs.declared.ended.ReplayFault.TheVariants.{Usage, Script, Capture, Journal, TooBig, ReadFault, WriteFault, No, NoMemory}

-- the words of the run that a replay is of: the one that wrote the journal
abbrev pub run_of : ReplayWords → Words
run_of words = record {
  workers = words.workers;
  budget = words.budget;
  own_name = words.own_name;
  journal = Some words.journal;
  source = FromFiles words.script words.ports;
}

-- the bytes that are read: those of a script and of captures, and of a journal
pub record AllFound : Type 0 where
  pub given : Found
  pub journal : List ℕ

abbrev pub IsAllFound : (List ℕ → Contents) → ReplayWords → AllFound → Type 0
IsAllFound files words found =
    run.IsFound files (FromFiles words.script words.ports) found.given × IsRead (files words.journal) found.journal

-- the files tell that they hold them
abbrev pub TellAll : (List ℕ → Contents) → ReplayWords → AllFound → Type 0
TellAll files words found =
    run.Tell files (FromFiles words.script words.ports) found.given × IsTold (files words.journal) found.journal

abbrev pub names : Names ReplayFault
names = record {
  unreadable_script = ReadFault given.Script;
  big_script = TooBig given.Script;
  wrong_script = λ fault. Script fault;
  unreadable_capture = λ p. ReadFault (given.Capture p);
  big_capture = λ p. TooBig (given.Capture p);
  wrong_capture = λ p why. Capture p why;
}

abbrev pub most_journal : ℕ
most_journal = 536870912

-- the first line that isn't as a journal has it
abbrev pub bad_line : Result (List Event) ℕ → Option ReplayFault
bad_line (Ok events) = None
bad_line (Err line) = Some (Journal line)

abbrev pub journal_steps : List ℕ → List ℕ → List (Step ReplayFault)
journal_steps file bytes =
    Reads file (ReadFault given.Journal)
    ∷ Checks (over most_journal (length bytes) (TooBig given.Journal))
    ∷ Checks (bad_line (journal_of bytes))
    ∷ []

-- the script first, each capture in order, and the journal
abbrev pub steps_in : ReplayWords → AllFound → List (Step ReplayFault)
steps_in words found =
    (script_steps names words.script found.given.script ++ capture_steps names 0 0 0 words.ports found.given.captures)
    ++ journal_steps words.journal found.journal

abbrev pub events_if : Result (List Event) ℕ → List Event
events_if (Ok events) = events
events_if (Err line) = []

abbrev pub events_in : AllFound → List Event
events_in found = events_if (journal_of found.journal)

-- the text of the run, where the journal is accepted
abbrev pub text_write : List ℕ → Write ReplayFault
text_write text = record { place = ToSink; bytes = text; failed = WriteFault }

abbrev pub writes_by : List Kind → ReplayWords → AllFound → Verdict → List (Write ReplayFault)
writes_by kinds words found says.Yes = text_write (text_in kinds (run_of words) found.given (events_in found)) ∷ []
writes_by kinds words found (says.No at) = []

-- the fault that a verdict is
abbrev pub fault_by : Verdict → Option ReplayFault
fault_by says.Yes = None
fault_by (says.No at) = Some (No at)

-- what the run of a replay makes is the verdict
abbrev pub replay_task : List Kind → Task ReplayFault Verdict
replay_task kinds = record {
  Words = ReplayWords;
  Input = AllFound;
  IsFound = IsAllFound;
  Tells = TellAll;
  steps = steps_in;
  IsPart = λ words found verdict. Unit {0};
  IsMade = λ words found. IsVerdict (setting_in kinds (run_of words) found.given) (events_in found);
  writes = writes_by kinds;
  status = λ words found verdict. status_of (fault_by verdict);
  nothing = says.Yes;
  usage = Usage;
  no_memory = NoMemory;
  fault_status = fault_status;
}
