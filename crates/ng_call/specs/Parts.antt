-- What the parts of a call promise each other.
use Rattle.std.specs.Prelude.{◌≡◌, ◌⊎◌, ℕ, List, ◌++◌, map, Option, None}
use Rattle.ng_machine.specs.declared.command.Command.{Command}
use Rattle.ng_outside.specs.Contents.{Contents}
use Rattle.ng_machine.specs.Words.{Every}
use Rattle.ng_pcap.specs.Writing.{IsWritable}
use Rattle.ng_pcap.specs.declared.capture.Capture.{Capture as ReadCapture}
use Rattle.ng_pcap.specs.declared.fault.CaptureFault.{CaptureFault}
use Rattle.ng_pcap.specs.declared.fault.CaptureFault.TheVariants as capture_faults
use Rattle.ngctl_script.specs.declared.fault.ScriptFault.{ScriptFault}
use Rattle.ngctl_script.specs.declared.fault.ScriptFault.TheVariants as script_faults
use Rattle.ngctl_script.specs.declared.when.When.{When}
use Rattle.ngctl_script.specs.Script.{commands_of}
use Rattle.ng_args.specs.declared.port.PortWord.{PortWord}
use Rattle.ng_args.specs.declared.words.Source.{Source}
use Rattle.ng_call.specs.ending.Outside.{Stored, Outside, Faults}
use Rattle.ng_call.specs.ending.Steps.{Step, first_fault, Refuses}
use Rattle.ng_call.specs.declared.ended.Fault.{Fault}
use Rattle.ng_call.specs.declared.ended.Fault.TheVariants.{NoMemory, Script, Capture}
use Rattle.ng_call.specs.Found.{Found, IsRead, AreRead, captures_in}
use Rattle.ng_call.specs.Steps.{script_steps, capture_steps}
use Rattle.ng_call.specs.Call.{names, IsFound, steps_in}

-- files before and after a part of the call, and nothing said of the sink
abbrev pub of_files : (List ℕ → Contents) → (List ℕ → Contents) → (List ℕ → ℕ) → (List ℕ → ℕ) → Outside
of_files old now before after = record {
  old = record { sink = None; files = old };
  now = record { sink = None; files = now };
  before = record { sink = 0; files = before };
  after = record { sink = 0; files = after };
}

-- what a sink and files hold
abbrev pub storing : Option (List ℕ) → (List ℕ → Contents) → Stored
storing sink files = record { sink = sink; files = files }

-- a sink and files before and after the call
abbrev pub outside : Stored → Stored → Faults → Faults → Outside
outside old now before after = record { old = old; now = now; before = before; after = after }

abbrev pub counting : ℕ → (List ℕ → ℕ) → Faults
counting sink files = record { sink = sink; files = files }

-- the fault of the call that comes of one of the script, and of one of a capture
abbrev pub stop_of_script : ScriptFault → Fault
stop_of_script script_faults.NoMemory = NoMemory
stop_of_script (script_faults.LineTooLong line) = Script (script_faults.LineTooLong line)
stop_of_script (script_faults.BadMark line) = Script (script_faults.BadMark line)
stop_of_script (script_faults.TooMany line) = Script (script_faults.TooMany line)

abbrev pub stop_of_capture : ℕ → CaptureFault → Fault
stop_of_capture port capture_faults.NoMemory = NoMemory
stop_of_capture port (capture_faults.ShortHeader n) = Capture port (capture_faults.ShortHeader n)
stop_of_capture port capture_faults.NoMagic = Capture port capture_faults.NoMagic
stop_of_capture port capture_faults.BadVersion = Capture port capture_faults.BadVersion
stop_of_capture port (capture_faults.BadLink n) = Capture port (capture_faults.BadLink n)
stop_of_capture port (capture_faults.TooLong place n) = Capture port (capture_faults.TooLong place n)

-- the fault has its cause in these steps, or memory ran out
abbrev pub Stops : Outside → List (Step Fault) → Fault → Type 0
Stops o steps fault = (fault ≡ NoMemory) ⊎ Refuses o steps fault

-- the same of the captures from port p on, of what may be read
abbrev pub PortsStop : Outside → ℕ → ℕ → ℕ → List PortWord → Fault → Type 0
PortsStop o p bytes packets ports fault =
    (captures : List (Option (List ℕ))) × AreRead o.old.files ports captures × Stops o (capture_steps names p bytes packets ports captures) fault

-- each packet of the captures came before 2^32 seconds, and none is too long
abbrev pub AreAllWritable : List ReadCapture → Type 0
AreAllWritable captures = Every (λ (capture : ReadCapture). Every IsWritable capture.kept) captures

-- the captures of the ports from one on were read
pub record PortsPass (files : List ℕ → Contents) (p bytes packets : ℕ) (ports : List PortWord) (old now : List ReadCapture) : Type 0 where
  pub found : List (Option (List ℕ))
  pub read : AreRead files ports found
  pub fine : first_fault files (capture_steps names p bytes packets ports found) ≡ None
  pub captures : now ≡ old ++ captures_in found
  pub writable : AreAllWritable (captures_in found)

-- and of all that may be read
abbrev pub AllStop : Outside → Source → Fault → Type 0
AllStop o source fault = (found : Found) × IsFound o.old.files source found × Stops o (steps_in source found) fault

-- a script was read of a file
pub record ScriptPasses (files : List ℕ → Contents) (name : List ℕ) (script : List (When × Command)) (commands : List Command) : Type 0 where
  pub bytes : List ℕ
  pub read : IsRead (files name) bytes
  pub fine : first_fault files (script_steps names name bytes) ≡ None
  pub script_is : script ≡ commands_of bytes
  pub commands_are : commands ≡ map (λ timed. timed.1) (commands_of bytes)

-- all was read that the words name
pub record AllPass (files : List ℕ → Contents) (source : Source) (script : List (When × Command)) (commands : List Command) (captures : List ReadCapture) : Type 0 where
  pub found : Found
  pub is_found : IsFound files source found
  pub fine : first_fault files (steps_in source found) ≡ None
  pub script_is : script ≡ commands_of found.script
  pub commands_are : commands ≡ map (λ timed. timed.1) (commands_of found.script)
  pub captures_are : captures ≡ captures_in found.captures
  pub writable : AreAllWritable (captures_in found.captures)
