-- How a trace ends that makes the run of no workers.
use Rattle.std.proofs.Common.{◌≡◌, ◌⊎◌, ◌∙◌, inl, inr, ℕ, List, [], ◌++◌, map, option_map, Option, Some, None, refl, sym, ap, subst}
use Rattle.std.specs.Io.KnownBytes.{Appends}
use Rattle.ng_base.specs.declared.event.Event.{Event}
use Rattle.ng_base.specs.declared.kind.Kind.{Kind}
use Rattle.ng_args.specs.declared.port.PortWord.{PortWord}
use Rattle.ng_args.specs.declared.words.ReplayWords.{ReplayWords}
use Rattle.ng_args.specs.declared.words.Source.TheVariants.{FromFiles}
use Rattle.ng_call.specs.Call as run
use Rattle.ng_call.specs.Found.{Found}
use Rattle.ng_call.specs.Parts.{AllPass, counting, of_files, outside, storing}
use Rattle.ng_call.specs.Parts as parts
use Rattle.ng_call.specs.Run.{IsRun, inputs_in, setting_in, setting_of}
use Rattle.ng_call.specs.declared.ended.Fault.{Fault}
use Rattle.ng_call.specs.ending.Outside.{Outside, Same}
use Rattle.ng_call.specs.ending.Steps.{Step, first_fault, Refuses}
use Rattle.ng_call.proofs.Reading.{memory_all}
use Rattle.ng_call.proofs.ending.Lists.{refuses_within}
use Rattle.ng_machine.specs.declared.command.Command.{Command}
use Rattle.ng_machine.specs.declared.input.Input.{Input}
use Rattle.ng_outside.specs.Contents.{Contents}
use Rattle.ng_outside.specs.Count.{Rose}
use Rattle.ng_outside.specs.Write.{AppendsPrefix}
use Rattle.ng_pcap.specs.declared.capture.Capture.{Capture}
use Rattle.ngctl_script.specs.declared.when.When.{When}
use Rattle.ng_replay.specs.Call.{run_of}
use Rattle.ng_replay.specs.Faults.{replay_fault}
use Rattle.ng_replay.specs.Parts.{Stops}
use Rattle.ng_replay.specs.declared.ended.ReplayFault.{ReplayFault}
use Rattle.ng_replay.specs.declared.ended.ReplayFault.TheVariants.{WriteFault, NoMemory}
use Rattle.ng_replay.proofs.Steps.{first_mapped, given_mapped, refuses_mapped}
use Rattle.ng_trace.specs.Trace.{trace_of}
use Rattle.ng_trace_plain.specs.Plain.{IsPlainTrace}
use Rattle.ng_trace_call.specs.Call.{names_in}
use Rattle.ng_trace_call.specs.PlainCall.{PlainEnds, PlainStops, plain_steps}

-- a fault of the script or of a capture
pub plain_stops : (o : Outside) (w : ReplayWords) (fault : Fault) → parts.AllStop o (FromFiles w.script w.ports) fault → PlainStops o w (replay_fault fault)
plain_stops o w fault (found, is, stops) = (found, is, by stops)
  where
    by : parts.Stops o (run.steps_in (FromFiles w.script w.ports) found) fault → Stops o (plain_steps w found) (replay_fault fault)
    by (inl memory) = inl (ap replay_fault memory)
    by (inr refuses) =
        inr (subst (λ (l : List (Step ReplayFault)). Refuses o l (replay_fault fault)) (given_mapped w.script w.ports found)
        (refuses_mapped replay_fault o (run.steps_in (FromFiles w.script w.ports) found) fault refuses))

module _ (kinds : List Kind) (w : ReplayWords) (o : Outside) where
  -- a read that stopped, or memory that ran out
  pub stops_ended : (fault : ReplayFault) → Same o.old o.now → PlainStops o w fault → PlainEnds kinds w o (Some fault)
  stops_ended fault same (found, is, stops) = record {
    journal = [];
    ends = record { input = found; is_found = is; ends = inl (record { nothing = refl; same = same; cause = stops }); status_is = refl };
  }

  pub memory_ended : Same o.old o.now → PlainEnds kinds w o (Some NoMemory)
  memory_ended same =
      let all = memory_all o (FromFiles w.script w.ports) in
      stops_ended NoMemory same (all.0, all.1, inl refl)

-- files that were read so far
module _ (kinds : List Kind) (w : ReplayWords) (sink : Option (List ℕ)) (old last : List ℕ → Contents) (before after : List ℕ → ℕ) (count : ℕ) where
  abbrev files_read : Outside
  files_read = of_files old last before after

  abbrev reading : Outside
  reading = outside (storing sink old) (storing sink last) (counting count before) (counting count after)

  placed : (found : Found) (fault : ReplayFault) → Stops files_read (plain_steps w found) fault → Stops reading (plain_steps w found) fault
  placed found fault (inl memory) = inl memory
  placed found fault (inr refuses) = inr (refuses_within files_read reading refl (λ name rose. rose) (plain_steps w found) fault refuses)

  pub read_stops : (fault : ReplayFault) → last ≡ old → PlainStops files_read w fault → PlainEnds kinds w reading (Some fault)
  read_stops fault same (found, is, stops) =
      stops_ended kinds w reading fault (record { sink = refl; files = same }) (found, is, placed found fault stops)

-- ALL WAS READ

module _ (kinds : List Kind) (w : ReplayWords) (files : List ℕ → Contents) (script : List (When × Command)) (commands : List Command) (captures : List Capture)
    (A : AllPass files (FromFiles w.script w.ports) script commands captures) (inputs : List Input) (inputs_are : inputs ≡ inputs_in A.found) where
  fine : first_fault files (plain_steps w A.found) ≡ None
  fine =
      ap (first_fault files) (sym (given_mapped w.script w.ports A.found))
      ∙ first_mapped replay_fault files (run.steps_in (FromFiles w.script w.ports) A.found)
      ∙ ap (option_map replay_fault) A.fine

  module _ (old now : Option (List ℕ)) (before after : List ℕ → ℕ) (sb sa : ℕ) (text : List ℕ) (T : IsPlainTrace kinds w inputs text) where
    abbrev around : Outside
    around = outside (storing old files) (storing now files) (counting sb before) (counting sa after)

    ran : IsRun (setting_in kinds (run_of w) A.found) w.workers T.journal
    ran = subst (λ (l : List Input). IsRun (setting_of kinds (run_of w) l) w.workers T.journal) inputs_are T.run

    text_is : text ≡ trace_of (names_in w) (setting_in kinds (run_of w) A.found) T.journal
    text_is = T.text_is ∙ ap (λ (l : List Input). trace_of (names_in w) (setting_of kinds (run_of w) l) T.journal) inputs_are

    pub put_ends : Appends old now text → PlainEnds kinds w around None
    put_ends put = record {
      journal = T.journal;
      ends = record {
        input = A.found;
        is_found = A.is_found;
        ends = record {
          passed = fine;
          ran = ran;
          written = (storing now files, (subst (Appends old now) text_is put, refl), record { sink = refl; files = refl });
        };
        status_is = refl;
      };
    }

    -- the sink failed
    pub put_stops : Rose sb sa → AppendsPrefix old now text → PlainEnds kinds w around (Some WriteFault)
    put_stops rose put = record {
      journal = T.journal;
      ends = record {
        input = A.found;
        is_found = A.is_found;
        ends = inr (inr (record {
          passed = fine;
          ran = ran;
          stops = inl (inr (refl, rose), (subst (AppendsPrefix old now) text_is put, refl));
        }));
        status_is = refl;
      };
    }
