-- A script and captures that are made of a number of packets are in form.
use Rattle.std.specs.Prelude.{◌≡◌, ℕ, ◌≤◌, List, All, None}
use Rattle.ng_pcap.specs.Reading.{capture_of}
use Rattle.ngctl_script.specs.Script.{script_fault}
use Rattle.ngctl_script.specs.make.Made.{made_captures, made_script}
use Rattle.ng_call.specs.Steps.{fault_in}

abbrev pub IsCapture : List ℕ → Type 0
IsCapture bytes = fault_in (capture_of bytes) ≡ None

-- packets that are made
abbrev pub most_made : ℕ
most_made = 100000

pub record MadeIsInForm : Type 0 where
  pub script : script_fault made_script ≡ None
  pub captures : (packets : ℕ) → packets ≤ most_made → All IsCapture (made_captures packets)
