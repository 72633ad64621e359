-- How a trace ends that has read.
use Rattle.std.proofs.Common.{◌≡◌, ◌⊎◌, ◌∙◌, inl, inr, ℕ, List, Option, Some, None, refl, sym, ap, subst}
use Rattle.std.specs.Io.KnownBytes.{Appends}
use Rattle.ng_base.specs.declared.event.Event.{Event}
use Rattle.ng_base.specs.declared.kind.Kind.{Kind}
use Rattle.ng_args.specs.declared.words.ReplayWords.{ReplayWords}
use Rattle.ng_call.specs.ending.Outside.{Outside, Same}
use Rattle.ng_call.proofs.ending.Lists.{refuses_within}
use Rattle.ng_call.specs.Parts.{counting, of_files, outside, storing}
use Rattle.ng_call.specs.Run.{inputs_in, setting_in, setting_of}
use Rattle.ng_machine.specs.declared.command.Command.{Command}
use Rattle.ng_machine.specs.declared.input.Input.{Input}
use Rattle.ng_outside.specs.Contents.{Contents}
use Rattle.ng_outside.specs.Count.{Rose}
use Rattle.ng_outside.specs.Write.{AppendsPrefix}
use Rattle.ng_pcap.specs.declared.capture.Capture.{Capture}
use Rattle.ngctl_script.specs.declared.when.When.{When}
use Rattle.ng_replay.specs.judge.Verdict.{IsVerdict}
use Rattle.ng_replay.specs.declared.judge.verdict.Verdict.{Verdict}
use Rattle.ng_replay.specs.declared.judge.verdict.Verdict.TheVariants as says
use Rattle.ng_replay.specs.Call.{AllFound, events_if, events_in, run_of, steps_in}
use Rattle.ng_replay.specs.Parts.{AllRead, AllStop, Stops}
use Rattle.ng_replay.specs.declared.ended.ReplayFault.{ReplayFault}
use Rattle.ng_replay.specs.declared.ended.ReplayFault.TheVariants.{Usage, WriteFault, No, NoMemory}
use Rattle.ng_replay.proofs.ReadAll.{all_fine, found_all, memory_all_found}
use Rattle.ng_trace.specs.Trace.{trace_of}
use Rattle.ng_trace_call.specs.Call.{names_in, text_in}
use Rattle.ng_trace_call.specs.Ends.{EndsAs}

-- a verdict that isn't a no
pub yes_of : (verdict : Verdict) → ((at : ℕ) → verdict ≡ says.No at → ⊥) → verdict ≡ says.Yes
yes_of says.Yes nope = refl
yes_of (says.No at) nope = absurd (nope at refl)

module _ (kinds : List Kind) (w : ReplayWords) (o : Outside) where
  -- a read that stopped, or memory that ran out
  pub stops_ended : (fault : ReplayFault) → Same o.old o.now → AllStop o w fault → EndsAs kinds (Some w) o (Some fault)
  stops_ended fault same (found, is, stops) = record {
    verdict = says.Yes;
    stop = Some fault;
    fault_is = refl;
    ends = record { input = found; is_found = is; ends = inl (record { nothing = refl; same = same; cause = stops }); status_is = refl };
  }

  pub memory_ended : Same o.old o.now → EndsAs kinds (Some w) o (Some NoMemory)
  memory_ended same = stops_ended NoMemory same (memory_all_found o w)

-- files that were read so far
module _ (kinds : List Kind) (w : ReplayWords) (sink : Option (List ℕ)) (old last : List ℕ → Contents) (before after : List ℕ → ℕ) (count : ℕ) where
  abbrev files_read : Outside
  files_read = of_files old last before after

  abbrev reading : Outside
  reading = outside (storing sink old) (storing sink last) (counting count before) (counting count after)

  placed : (found : AllFound) (fault : ReplayFault) → Stops files_read (steps_in w found) fault → Stops reading (steps_in w found) fault
  placed found fault (inl memory) = inl memory
  placed found fault (inr refuses) = inr (refuses_within files_read reading refl (λ name rose. rose) (steps_in w found) fault refuses)

  pub read_stops : (fault : ReplayFault) → last ≡ old → AllStop files_read w fault → EndsAs kinds (Some w) reading (Some fault)
  read_stops fault same (found, is, stops) =
      stops_ended kinds w reading fault (record { sink = refl; files = same }) (found, is, placed found fault stops)

-- the same of a call, by what its words say

unsaid : (kinds : List Kind) (o : Outside) (fault : ReplayFault) → Same o.old o.now → (Some fault ≡ Some Usage) ⊎ (Some fault ≡ Some NoMemory)
    → EndsAs kinds None o (Some fault)
unsaid kinds o fault same cause = record {
  verdict = says.Yes;
  stop = Some fault;
  fault_is = refl;
  ends = record { nothing = refl; same = same; cause = cause; status_is = refl };
}

pub memory_ends : (kinds : List Kind) (said : Option ReplayWords) (o : Outside) → Same o.old o.now → EndsAs kinds said o (Some NoMemory)
memory_ends kinds None o same = unsaid kinds o NoMemory same (inr refl)
memory_ends kinds (Some w) o same = memory_ended kinds w o same

pub usage_ends : (kinds : List Kind) (said : Option ReplayWords) (o : Outside) → said ≡ None → Same o.old o.now → EndsAs kinds said o (Some Usage)
usage_ends kinds said o is same = subst (λ (s : Option ReplayWords). EndsAs kinds s o (Some Usage)) (sym is) (unsaid kinds o Usage same (inl refl))

-- ALL WAS READ

module _ (kinds : List Kind) (w : ReplayWords) (files : List ℕ → Contents) (script : List (When × Command)) (commands : List Command) (captures : List Capture)
    (journal : List Event) (A : AllRead files w script commands captures journal) (inputs : List Input) (inputs_are : inputs ≡ inputs_in A.pass.found) where
  abbrev found : AllFound
  found = found_all files w script commands captures journal A

  events_are : events_in found ≡ journal
  events_are = ap events_if A.journal_is

  judged : (verdict : Verdict) → IsVerdict (setting_of kinds (run_of w) inputs) journal verdict → IsVerdict (setting_in kinds (run_of w) found.given) (events_in found) verdict
  judged verdict is =
      subst (λ (j : List Event). IsVerdict (setting_in kinds (run_of w) found.given) j verdict) (sym events_are)
      (subst (λ (l : List Input). IsVerdict (setting_of kinds (run_of w) l) journal verdict) inputs_are is)

  module _ (old now : Option (List ℕ)) (before after : List ℕ → ℕ) (sb sa : ℕ) where
    abbrev around : Outside
    around = outside (storing old files) (storing now files) (counting sb before) (counting sa after)

    -- the journal is refused
    pub no_ends : (at : ℕ) → now ≡ old → IsVerdict (setting_of kinds (run_of w) inputs) journal (says.No at) → EndsAs kinds (Some w) around (Some (No at))
    no_ends at same is = record {
      verdict = says.No at;
      stop = None;
      fault_is = refl;
      ends = record {
        input = found;
        is_found = (A.pass.is_found, A.read);
        ends = record {
          passed = all_fine files w script commands captures journal A;
          ran = judged (says.No at) is;
          written = record { sink = same; files = refl };
        };
        status_is = refl;
      };
    }

    -- it is accepted, and the text is put
    module _ (is : IsVerdict (setting_of kinds (run_of w) inputs) journal says.Yes)
        (text : List ℕ) (made : text ≡ trace_of (names_in w) (setting_of kinds (run_of w) inputs) journal) where
      text_is : text ≡ text_in kinds w found
      text_is =
          made
          ∙ ap (λ (l : List Input). trace_of (names_in w) (setting_of kinds (run_of w) l) journal) inputs_are
          ∙ ap (λ (l : List Event). trace_of (names_in w) (setting_in kinds (run_of w) A.pass.found) l) (sym events_are)

      pub yes_ends : Appends old now text → EndsAs kinds (Some w) around None
      yes_ends put = record {
        verdict = says.Yes;
        stop = None;
        fault_is = refl;
        ends = record {
          input = found;
          is_found = (A.pass.is_found, A.read);
          ends = record {
            passed = all_fine files w script commands captures journal A;
            ran = judged says.Yes is;
            written = (storing now files, (subst (Appends old now) text_is put, refl), record { sink = refl; files = refl });
          };
          status_is = refl;
        };
      }

      -- the sink failed
      pub put_stops : Rose sb sa → AppendsPrefix old now text → EndsAs kinds (Some w) around (Some WriteFault)
      put_stops rose put = record {
        verdict = says.Yes;
        stop = Some WriteFault;
        fault_is = refl;
        ends = record {
          input = found;
          is_found = (A.pass.is_found, A.read);
          ends = inr (inr (record {
            passed = all_fine files w script commands captures journal A;
            ran = judged says.Yes is;
            stops = inl (inr (refl, rose), (subst (AppendsPrefix old now) text_is put, refl));
          }));
          status_is = refl;
        };
      }
