-- Which sorts of faults the steps of a script and of captures have, however a call names them.
use Rattle.std.proofs.Common.{ℕ, ◌+◌, nat_lt, List, [], ◌∷◌, length, Option, Some, None}
use Rattle.ng_pcap.specs.declared.fault.CaptureFault.{CaptureFault}
use Rattle.ng_pcap.specs.Reading.{capture_of}
use Rattle.ngctl_script.specs.declared.fault.ScriptFault.{ScriptFault}
use Rattle.ngctl_script.specs.Script.{script_fault}
use Rattle.ng_args.specs.declared.port.PortWord.{PortWord}
use Rattle.ng_call.specs.ending.Causes.{NoneChecked, NoneReads}
use Rattle.ng_call.proofs.ending.Sorts.{if_checked, map_checked}
use Rattle.ng_call.specs.Steps.{Names, capture_steps, fault_in, most_bytes, most_packets, most_script, packets_in, script_steps}

module _ {F : Type 0} (P : F → Type 0) (names : Names F) where
  -- the faults that are looked for are of another sort
  pub record AreElse : Type 0 where
    pub big_script : P names.big_script → ⊥
    pub wrong_script : (fault : ScriptFault) → P (names.wrong_script fault) → ⊥
    pub big_capture : (port : ℕ) → P (names.big_capture port) → ⊥
    pub wrong_capture : (port : ℕ) (why : CaptureFault) → P (names.wrong_capture port why) → ⊥

  module _ (E : AreElse) where
    pub script_checked : (file bytes : List ℕ) → NoneChecked P (script_steps names file bytes)
    script_checked file bytes =
        if_checked P (nat_lt most_script (length bytes)) names.big_script _ E.big_script
        (map_checked P (script_fault bytes) names.wrong_script [] E.wrong_script tt)

    pub captures_checked : (p bytes packets : ℕ) (ports : List PortWord) (captures : List (Option (List ℕ)))
        → NoneChecked P (capture_steps names p bytes packets ports captures)
    captures_checked p bytes packets [] captures = tt
    captures_checked p bytes packets (port ∷ ports) [] = tt
    captures_checked p bytes packets (port ∷ ports) (None ∷ captures) = captures_checked (p + 1) bytes packets ports captures
    captures_checked p bytes packets (port ∷ ports) (Some held ∷ captures) =
        if_checked P (nat_lt most_bytes (bytes + length held)) (names.big_capture p) _ (E.big_capture p)
        (map_checked P (fault_in (capture_of held)) (names.wrong_capture p) _ (E.wrong_capture p)
        (if_checked P (nat_lt most_packets (packets + packets_in held)) (names.big_capture p) _ (E.big_capture p)
        (captures_checked (p + 1) (bytes + length held) (packets + packets_in held) ports captures)))

  module _ (unread : (port : ℕ) → P (names.unreadable_capture port) → ⊥) where
    pub captures_read : (p bytes packets : ℕ) (ports : List PortWord) (captures : List (Option (List ℕ)))
        → NoneReads P (capture_steps names p bytes packets ports captures)
    captures_read p bytes packets [] captures = tt
    captures_read p bytes packets (port ∷ ports) [] = tt
    captures_read p bytes packets (port ∷ ports) (None ∷ captures) = captures_read (p + 1) bytes packets ports captures
    captures_read p bytes packets (port ∷ ports) (Some held ∷ captures) =
        (unread p, captures_read (p + 1) (bytes + length held) (packets + packets_in held) ports captures)
