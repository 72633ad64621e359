-- The script and the captures, and the journal behind them.
use Rattle.std.proofs.Common.{◌≡◌, inl, inr, ◌∙◌, ℕ, ◌≤◌, List, ◌++◌, option_map, None, refl, sym, ap, subst}
use Rattle.ng_call.specs.ending.Outside.{Outside}
use Rattle.ng_call.specs.ending.Steps.{Step, first_fault, Refuses}
use Rattle.ng_call.proofs.ending.Counts.{rose_since}
use Rattle.ng_call.proofs.ending.Lists.{first_behind, refuses_behind, refuses_in_front, refuses_within}
use Rattle.ng_machine.specs.declared.command.Command.{Command}
use Rattle.ng_outside.specs.Contents.{Contents}
use Rattle.ng_pcap.specs.declared.capture.Capture.{Capture}
use Rattle.ng_call.specs.Call as run
use Rattle.ng_call.specs.Found.{Found, IsRead}
use Rattle.ng_call.specs.Parts.{AllPass, of_files}
use Rattle.ng_call.specs.Parts as parts
use Rattle.ng_call.specs.Steps.{capture_steps, script_steps}
use Rattle.ng_call.specs.declared.ended.Fault.{Fault}
use Rattle.ng_call.proofs.Files.{told_or_empty, told_read}
use Rattle.ng_call.proofs.Reading.{memory_all}
use Rattle.ngctl_script.specs.declared.when.When.{When}
use Rattle.ng_args.specs.declared.words.ReplayWords.{ReplayWords}
use Rattle.ng_args.specs.declared.words.Source.TheVariants.{FromFiles}
use Rattle.ng_replay.specs.Call.{AllFound, journal_steps, names, steps_in}
use Rattle.ng_replay.specs.Faults.{replay_fault}
use Rattle.ng_replay.specs.Parts.{AllRead, AllStop, Stops}
use Rattle.ng_replay.specs.declared.ended.ReplayFault.{ReplayFault}
use Rattle.ng_replay.specs.declared.ended.ReplayFault.TheVariants.{NoMemory}
use Rattle.ng_replay.proofs.Steps.{first_mapped, given_mapped, refuses_mapped}

abbrev all_found : Found → List ℕ → AllFound
all_found given journal = record { given = given; journal = journal }

abbrev given_steps : ReplayWords → Found → List (Step ReplayFault)
given_steps words found = script_steps names words.script found.script ++ capture_steps names 0 0 0 words.ports found.captures

-- steps that a run passes, a replay passes
given_fine : (files : List ℕ → Contents) (words : ReplayWords) (found : Found) → first_fault files (run.steps_in (FromFiles words.script words.ports) found) ≡ None
    → first_fault files (given_steps words found) ≡ None
given_fine files words found fine =
    ap (first_fault files) (sym (given_mapped words.script words.ports found))
    ∙ first_mapped replay_fault files (run.steps_in (FromFiles words.script words.ports) found)
    ∙ ap (option_map replay_fault) fine

-- memory ran out before anything was read
pub memory_all_found : (o : Outside) (words : ReplayWords) → AllStop o words NoMemory
memory_all_found o words =
    let given = memory_all o (FromFiles words.script words.ports) in
    (all_found given.0 (told_or_empty (o.old.files words.journal)), (given.1, told_read (o.old.files words.journal)), inl refl)

-- a fault of the script or of a capture
pub given_stops : (o : Outside) (words : ReplayWords) (fault : Fault) → parts.AllStop o (FromFiles words.script words.ports) fault → AllStop o words (replay_fault fault)
given_stops o words fault (found, is, stops) =
    (all_found found (told_or_empty (o.old.files words.journal)), (is, told_read (o.old.files words.journal)), by stops)
  where
    by : parts.Stops o (run.steps_in (FromFiles words.script words.ports) found) fault → Stops o (given_steps words found ++ journal_steps words.journal (told_or_empty (o.old.files words.journal))) (replay_fault fault)
    by (inl memory) = inl (ap replay_fault memory)
    by (inr refuses) =
        inr (refuses_in_front o (given_steps words found) (journal_steps words.journal (told_or_empty (o.old.files words.journal))) (replay_fault fault)
        (subst (λ (l : List (Step ReplayFault)). Refuses o l (replay_fault fault)) (given_mapped words.script words.ports found)
        (refuses_mapped replay_fault o (run.steps_in (FromFiles words.script words.ports) found) fault refuses)))

module _ (old mid last : List ℕ → Contents) (before middle after : List ℕ → ℕ) (words : ReplayWords)
    (script : List (When × Command)) (commands : List Command) (captures : List Capture)
    (same : mid ≡ old) (counts : (other : List ℕ) → before other ≤ middle other) (pass : AllPass old (FromFiles words.script words.ports) script commands captures) where
  -- a fault of the journal, behind a script and captures that were read
  pub journal_stops : (fault : ReplayFault) (bytes : List ℕ) → IsRead (mid words.journal) bytes → Stops (of_files mid last middle after) (journal_steps words.journal bytes) fault
      → AllStop (of_files old last before after) words fault
  journal_stops fault bytes read stops = (all_found pass.found bytes, (pass.is_found, subst (λ (f : List ℕ → Contents). IsRead (f words.journal) bytes) same read), by stops)
    where
      by : Stops (of_files mid last middle after) (journal_steps words.journal bytes) fault → Stops (of_files old last before after) (given_steps words pass.found ++ journal_steps words.journal bytes) fault
      by (inl memory) = inl memory
      by (inr refuses) =
          inr (refuses_behind (of_files old last before after) (given_steps words pass.found) (journal_steps words.journal bytes) fault (given_fine old words pass.found pass.fine)
          (refuses_within (of_files mid last middle after) (of_files old last before after) same
          (λ name rose. rose_since (before name) (middle name) (after name) (counts name) rose) (journal_steps words.journal bytes) fault refuses))

-- what was read, all of it
module _ (files : List ℕ → Contents) (words : ReplayWords) (script : List (When × Command)) (commands : List Command) (captures : List Capture) (journal : List _)
    (all : AllRead files words script commands captures journal) where
  abbrev pub found_all : AllFound
  found_all = all_found all.pass.found all.bytes

  pub all_fine : first_fault files (steps_in words found_all) ≡ None
  all_fine = first_behind files (given_steps words all.pass.found) (journal_steps words.journal all.bytes) (given_fine files words all.pass.found all.pass.fine) ∙ all.fine
