-- What is looked for in a script and in captures, in order. The calls that read them name their faults each in its own way.
use Rattle.std.specs.Prelude.{ℕ, ◌+◌, nat_lt, if◌then◌else◌, List, [], ◌∷◌, ◌++◌, length, option_map, Option, Some, None, Result, Ok, Err}
use Rattle.ng_pcap.specs.declared.capture.Capture.{Capture}
use Rattle.ng_pcap.specs.declared.fault.CaptureFault.{CaptureFault}
use Rattle.ng_pcap.specs.Reading.{capture_of}
use Rattle.ngctl_script.specs.declared.fault.ScriptFault.{ScriptFault}
use Rattle.ngctl_script.specs.Script.{script_fault}
use Rattle.ng_args.specs.declared.port.PortWord.{PortWord}
use Rattle.ng_call.specs.ending.Steps.{Step, Reads, Checks}
use Rattle.ng_call.specs.Found.{capture_in}

-- the faults of a script and of the capture of a port
pub record Names (F : Type 0) : Type 0 where
  pub unreadable_script : F
  pub big_script : F
  pub wrong_script : ScriptFault → F
  pub unreadable_capture : ℕ → F
  pub big_capture : ℕ → F
  pub wrong_capture : ℕ → CaptureFault → F

abbrev pub most_script : ℕ
most_script = 1048576

-- of all captures together
abbrev pub most_bytes : ℕ
most_bytes = 268435456

abbrev pub most_packets : ℕ
most_packets = 1000000

-- the fault, where a number is more than it may be
abbrev pub over : {F : Type 0} → ℕ → ℕ → F → Option F
over most n fault = if nat_lt most n then Some fault else None

abbrev pub script_steps : {F : Type 0} → Names F → List ℕ → List ℕ → List (Step F)
script_steps names file bytes =
    Reads file names.unreadable_script
    ∷ Checks (over most_script (length bytes) names.big_script)
    ∷ Checks (option_map names.wrong_script (script_fault bytes))
    ∷ []

abbrev pub fault_in : Result Capture CaptureFault → Option CaptureFault
fault_in (Ok capture) = None
fault_in (Err fault) = Some fault

abbrev pub packets_in : List ℕ → ℕ
packets_in bytes = length (capture_in (Some bytes)).kept

-- of the capture of port p, behind others of so many bytes and packets
abbrev pub port_steps : {F : Type 0} → Names F → ℕ → ℕ → ℕ → List ℕ → List ℕ → List (Step F)
port_steps names p bytes packets file held =
    Reads file (names.unreadable_capture p)
    ∷ Checks (over most_bytes (bytes + length held) (names.big_capture p))
    ∷ Checks (option_map (names.wrong_capture p) (fault_in (capture_of held)))
    ∷ Checks (over most_packets (packets + packets_in held) (names.big_capture p))
    ∷ []

-- of the captures from port p on
abbrev pub capture_steps : {F : Type 0} → Names F → ℕ → ℕ → ℕ → List PortWord → List (Option (List ℕ)) → List (Step F)
capture_steps names p bytes packets [] captures = []
capture_steps names p bytes packets (port ∷ ports) [] = []
capture_steps names p bytes packets (port ∷ ports) (None ∷ captures) = capture_steps names (p + 1) bytes packets ports captures
capture_steps names p bytes packets (port ∷ ports) (Some held ∷ captures) =
    port_steps names p bytes packets port.in_file held
    ++ capture_steps names (p + 1) (bytes + length held) (packets + packets_in held) ports captures
