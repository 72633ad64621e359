-- Which sorts of faults steps and writes have.
use Rattle.std.proofs.Common.{ℕ, ◌+◌, List, [], ◌∷◌, Option, Some, None}
use Rattle.ng_base.specs.declared.event.Event.{Event}
use Rattle.ng_base.specs.declared.kind.Kind.{Kind}
use Rattle.ng_machine.specs.World.{Port}
use Rattle.ng_pcap.specs.declared.fault.CaptureFault.{CaptureFault}
use Rattle.ngctl_script.specs.declared.fault.ScriptFault.{ScriptFault}
use Rattle.ng_args.specs.Run.{ports_from}
use Rattle.ng_args.specs.Together.{is_file}
use Rattle.ng_args.specs.declared.port.PortWord.{PortWord}
use Rattle.ng_args.specs.declared.words.Source.{Source}
use Rattle.ng_args.specs.declared.words.Source.TheVariants.{FromFiles, Made}
use Rattle.ng_args.specs.declared.words.Words.{Words}
use Rattle.ng_call.specs.ending.Causes.{NoneChecked, NoneReads, NoneWrites}
use Rattle.ng_call.proofs.ending.Sorts.{both_checked, both_reads, both_written, if_written}
use Rattle.ng_call.specs.declared.ended.Fault.{Fault}
use Rattle.ng_call.specs.declared.ended.Fault.TheVariants.{Script, Capture, TooBig, ReadFault, WriteFault}
use Rattle.ng_call.specs.declared.ended.Which.{Which}
use Rattle.ng_call.specs.declared.ended.Which.TheVariants as of
use Rattle.ng_call.specs.Found.{Found}
use Rattle.ng_call.specs.Steps.{script_steps, capture_steps}
use Rattle.ng_call.specs.Run.{world_in}
use Rattle.ng_call.specs.Writes.{out_writes, out_write, journal_writes, writes_in}
use Rattle.ng_call.specs.Call.{names, steps_in}
use Rattle.ng_call.proofs.GivenSorts.{AreElse, captures_checked, captures_read, script_checked}

module _ (P : Fault → Type 0) where
  -- What is looked for

  module _ (big : (which : Which) → P (TooBig which) → ⊥) (script : (fault : ScriptFault) → P (Script fault) → ⊥)
      (capture : (port : ℕ) (why : CaptureFault) → P (Capture port why) → ⊥) where
    are_else : AreElse P names
    are_else = record {
      big_script = big of.Script;
      wrong_script = script;
      big_capture = λ port. big (of.Capture port);
      wrong_capture = capture;
    }

    pub none_checked : (source : Source) (found : Found) → NoneChecked P (steps_in source found)
    none_checked (FromFiles file ports) found =
        both_checked P (script_steps names file found.script) (capture_steps names 0 0 0 ports found.captures)
        (script_checked P names are_else file found.script) (captures_checked P names are_else 0 0 0 ports found.captures)
    none_checked (Made packets) found = tt

  -- What is read

  module _ (unread : (which : Which) → P (ReadFault which) → ⊥) where
    pub none_read : (source : Source) (found : Found) → NoneReads P (steps_in source found)
    none_read (FromFiles file ports) found =
        both_reads P (script_steps names file found.script) (capture_steps names 0 0 0 ports found.captures)
        (unread of.Script, tt) (captures_read P names (λ port. unread (of.Capture port)) 0 0 0 ports found.captures)
    none_read (Made packets) found = tt

  -- What is written

  module _ (unwritten : (which : Which) → P (WriteFault which) → ⊥) where
    outs_written : (p : ℕ) (words : List PortWord) (ports : List Port) → NoneWrites P (out_writes p words ports)
    outs_written p [] ports = tt
    outs_written p (word ∷ words) [] = tt
    outs_written p (word ∷ words) (port ∷ ports) =
        if_written P (is_file word.out_file) (out_write p word.out_file port) (out_writes (p + 1) words ports)
        (unwritten (of.Leaving p)) (outs_written (p + 1) words ports)

    journal_written : (name : Option (List ℕ)) (journal : List Event) → NoneWrites P (journal_writes name journal)
    journal_written None journal = tt
    journal_written (Some file) journal = (unwritten of.Journal, tt)

    pub none_written : (kinds : List Kind) (words : Words) (found : Found) (journal : List Event)
        → NoneWrites P (writes_in kinds words found journal)
    none_written kinds words found journal = (
      unwritten of.Sink,
      both_written P (out_writes 0 (ports_from words.source) (world_in kinds words found journal).ports) (journal_writes words.journal journal)
          (outs_written 0 (ports_from words.source) (world_in kinds words found journal).ports) (journal_written words.journal journal),
    )
