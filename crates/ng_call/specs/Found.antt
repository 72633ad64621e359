-- What a call reads: the bytes of its script and of its captures.
use Rattle.std.specs.Prelude.{◌≡◌, ◌≢◌, ℕ, List, [], ◌∷◌, map, Option, Some, None, Result, Ok, Err}
use Rattle.ng_outside.specs.Contents.{Contents, NotTold, NoFile, Holds}
use Rattle.ng_pcap.specs.declared.capture.Capture.{Capture}
use Rattle.ng_pcap.specs.declared.fault.CaptureFault.{CaptureFault}
use Rattle.ng_pcap.specs.Reading.{capture_of}
use Rattle.ng_args.specs.declared.port.PortWord.{PortWord}

-- the script's bytes, and those of each port's capture, in order; none of a port that receives nothing
pub record Found : Type 0 where
  pub script : List ℕ
  pub captures : List (Option (List ℕ))

-- the bytes that are read of a file are those that it holds, where that is told; a missing one gives none
abbrev pub IsRead : Contents → List ℕ → Type 0
IsRead NotTold bytes = Unit {0}
IsRead NoFile bytes = bytes ≡ []
IsRead (Holds held) bytes = held ≡ bytes

abbrev pub AreRead : (List ℕ → Contents) → List PortWord → List (Option (List ℕ)) → Type 0
AreRead files [] [] = Unit {0}
AreRead files [] (bytes ∷ captures) = ⊥
AreRead files (port ∷ ports) [] = ⊥
AreRead files (port ∷ ports) (None ∷ captures) = (port.in_file ≡ []) × AreRead files ports captures
AreRead files (port ∷ ports) (Some bytes ∷ captures) =
    (port.in_file ≢ []) × IsRead (files port.in_file) bytes × AreRead files ports captures

-- the files tell these bytes; a missing one has none
abbrev pub IsTold : Contents → List ℕ → Type 0
IsTold NotTold bytes = ⊥
IsTold NoFile bytes = bytes ≡ []
IsTold (Holds held) bytes = held ≡ bytes

abbrev pub TellPorts : (List ℕ → Contents) → List PortWord → List (Option (List ℕ)) → Type 0
TellPorts files [] [] = Unit {0}
TellPorts files [] (bytes ∷ captures) = ⊥
TellPorts files (port ∷ ports) [] = ⊥
TellPorts files (port ∷ ports) (None ∷ captures) = (port.in_file ≡ []) × TellPorts files ports captures
TellPorts files (port ∷ ports) (Some bytes ∷ captures) =
    (port.in_file ≢ []) × IsTold (files port.in_file) bytes × TellPorts files ports captures

-- the capture that bytes are, and one without packets where there are none
abbrev pub no_capture : Capture
no_capture = record { kept = []; cut = None }

abbrev pub capture_if : Result Capture CaptureFault → Capture
capture_if (Ok capture) = capture
capture_if (Err fault) = no_capture

abbrev pub capture_in : Option (List ℕ) → Capture
capture_in None = no_capture
capture_in (Some bytes) = capture_if (capture_of bytes)

abbrev pub captures_in : List (Option (List ℕ)) → List Capture
captures_in captures = map capture_in captures
