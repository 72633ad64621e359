-- Which sorts of faults the steps of a replay have.
use Rattle.std.proofs.Common.{ℕ, nat_lt, List, [], ◌∷◌, ◌++◌, length, Result, Ok, Err}
use Rattle.ng_base.specs.declared.event.Event.{Event}
use Rattle.ng_journal.specs.Reading.{journal_of}
use Rattle.ng_pcap.specs.declared.fault.CaptureFault.{CaptureFault}
use Rattle.ngctl_script.specs.declared.fault.ScriptFault.{ScriptFault}
use Rattle.ng_args.specs.declared.words.ReplayWords.{ReplayWords}
use Rattle.ng_call.specs.ending.Steps.{Checks}
use Rattle.ng_call.specs.ending.Causes.{NoneChecked, NoneReads}
use Rattle.ng_call.proofs.ending.Sorts.{both_checked, both_reads, if_checked}
use Rattle.ng_call.specs.Steps.{capture_steps, script_steps}
use Rattle.ng_call.proofs.GivenSorts.{AreElse as AreGivenElse, captures_checked, captures_read, script_checked}
use Rattle.ng_replay.specs.Call.{AllFound, bad_line, journal_steps, most_journal, names, steps_in}
use Rattle.ng_replay.specs.declared.ended.Given.{Given}
use Rattle.ng_replay.specs.declared.ended.Given.TheVariants as given
use Rattle.ng_replay.specs.declared.ended.ReplayFault.{ReplayFault}
use Rattle.ng_replay.specs.declared.ended.ReplayFault.TheVariants.{Script, Capture, Journal, TooBig, ReadFault}

module _ (P : ReplayFault → Type 0) where
  -- What is looked for

  -- the faults that are looked for
  pub record AreElse : Type 0 where
    pub big : (which : Given) → P (TooBig which) → ⊥
    pub script : (fault : ScriptFault) → P (Script fault) → ⊥
    pub capture : (port : ℕ) (why : CaptureFault) → P (Capture port why) → ⊥
    pub journal : (line : ℕ) → P (Journal line) → ⊥

  module _ (E : AreElse) where
    given_else : AreGivenElse P names
    given_else = record {
      big_script = E.big given.Script;
      wrong_script = E.script;
      big_capture = λ port. E.big (given.Capture port);
      wrong_capture = E.capture;
    }

    line_checked : (r : Result (List Event) ℕ) → NoneChecked P (Checks (bad_line r) ∷ [])
    line_checked (Ok events) = tt
    line_checked (Err line) = (E.journal line, tt)

    journal_checked : (file bytes : List ℕ) → NoneChecked P (journal_steps file bytes)
    journal_checked file bytes = if_checked P (nat_lt most_journal (length bytes)) (TooBig given.Journal) _ (E.big given.Journal) (line_checked (journal_of bytes))

    pub none_checked : (words : ReplayWords) (found : AllFound) → NoneChecked P (steps_in words found)
    none_checked words found =
        both_checked P (script_steps names words.script found.given.script ++ capture_steps names 0 0 0 words.ports found.given.captures) (journal_steps words.journal found.journal)
        (both_checked P (script_steps names words.script found.given.script) (capture_steps names 0 0 0 words.ports found.given.captures)
        (script_checked P names given_else words.script found.given.script) (captures_checked P names given_else 0 0 0 words.ports found.given.captures))
        (journal_checked words.journal found.journal)

  -- What is read

  module _ (unread : (which : Given) → P (ReadFault which) → ⊥) where
    pub none_read : (words : ReplayWords) (found : AllFound) → NoneReads P (steps_in words found)
    none_read words found =
        both_reads P (script_steps names words.script found.given.script ++ capture_steps names 0 0 0 words.ports found.given.captures) (journal_steps words.journal found.journal)
        (both_reads P (script_steps names words.script found.given.script) (capture_steps names 0 0 0 words.ports found.given.captures)
        (unread given.Script, tt) (captures_read P names (λ port. unread (given.Capture port)) 0 0 0 words.ports found.given.captures))
        (unread given.Journal, tt)
