-- The call of a run, as a task: what it reads, what it looks for, what its run makes, what it writes, and its statuses.
use Rattle.std.specs.Prelude.{◌≡◌, ℕ, if◌then◌else◌, List, [], ◌++◌, map, Some}
use Rattle.ng_base.specs.declared.event.Event.{Event}
use Rattle.ng_base.specs.declared.kind.Kind.{Kind}
use Rattle.ng_machine.specs.Laws.{IsJournal}
use Rattle.ngctl_script.specs.make.Made.{made_script, made_captures}
use Rattle.ng_outside.specs.Contents.{Contents}
use Rattle.ng_args.specs.declared.words.Source.{Source}
use Rattle.ng_args.specs.declared.words.Source.TheVariants.{FromFiles, Made}
use Rattle.ng_args.specs.declared.words.Words.{Words}
use Rattle.ng_call.specs.ending.Steps.{Step}
use Rattle.ng_call.specs.ending.Task.{Task}
use Rattle.ng_call.specs.declared.ended.Fault.{Fault}
use Rattle.ng_call.specs.declared.ended.Fault.TheVariants.{Usage, Script, Capture, TooBig, ReadFault, WriteFault, NoMemory}
use Rattle.ng_call.specs.declared.ended.Which.TheVariants as of
use Rattle.ng_call.specs.Found.{Found, IsRead, AreRead, IsTold, TellPorts}
use Rattle.ng_call.specs.Steps.{Names, script_steps, capture_steps}
use Rattle.ng_call.specs.Run.{IsRun, setting_in, world_in}
use Rattle.ng_call.specs.Writes.{is_stopped, has_error, writes_in}

abbrev pub names : Names Fault
names = record {
  unreadable_script = ReadFault of.Script;
  big_script = TooBig of.Script;
  wrong_script = λ fault. Script fault;
  unreadable_capture = λ p. ReadFault (of.Capture p);
  big_capture = λ p. TooBig (of.Capture p);
  wrong_capture = λ p why. Capture p why;
}

-- a script and captures that are made
abbrev pub made : ℕ → Found
made packets = record { script = made_script; captures = map (λ bytes. Some bytes) (made_captures packets) }

-- what is read is what the files hold, where they tell it; and where packets are made no file is read
abbrev pub IsFound : (List ℕ → Contents) → Source → Found → Type 0
IsFound files (FromFiles script ports) found = IsRead (files script) found.script × AreRead files ports found.captures
IsFound files (Made packets) found = found ≡ made packets

-- the files tell that they hold it
abbrev pub Tell : (List ℕ → Contents) → Source → Found → Type 0
Tell files (FromFiles script ports) found = IsTold (files script) found.script × TellPorts files ports found.captures
Tell files (Made packets) found = found ≡ made packets

abbrev pub steps_in : Source → Found → List (Step Fault)
steps_in (FromFiles script ports) found =
    script_steps names script found.script ++ capture_steps names 0 0 0 ports found.captures
steps_in (Made packets) found = []

-- 0, or 1 where an error was told, or 2 where the run stopped at its limit
abbrev pub run_status : List Kind → Words → Found → List Event → ℕ
run_status kinds words found journal =
    if is_stopped journal then 2 else if has_error (world_in kinds words found journal) then 1 else 0

abbrev pub fault_status : Fault → ℕ
fault_status Usage = 64
fault_status (ReadFault which) = 66
fault_status (WriteFault which) = 74
fault_status NoMemory = 71
fault_status _ = 65

-- what the run makes is its journal
abbrev pub run_task : List Kind → Task Fault (List Event)
run_task kinds = record {
  Words = Words;
  Input = Found;
  IsFound = λ files words found. IsFound files words.source found;
  Tells = λ files words found. Tell files words.source found;
  steps = λ words found. steps_in words.source found;
  IsPart = λ words found. IsJournal (setting_in kinds words found);
  IsMade = λ words found. IsRun (setting_in kinds words found) words.workers;
  writes = writes_in kinds;
  status = run_status kinds;
  nothing = [];
  usage = Usage;
  no_memory = NoMemory;
  fault_status = fault_status;
}
