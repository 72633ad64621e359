-- What the steps of a replay come to, in the words of the functions that make them.
use Rattle.std.specs.Prelude.{◌≡◌, ◌⊎◌, ℕ, List, None, Ok}
use Rattle.ng_base.specs.declared.event.Event.{Event}
use Rattle.ng_call.specs.ending.Outside.{Outside}
use Rattle.ng_call.specs.ending.Steps.{Step, first_fault, Refuses}
use Rattle.ng_journal.specs.Reading.{journal_of}
use Rattle.ng_machine.specs.declared.command.Command.{Command}
use Rattle.ng_outside.specs.Contents.{Contents}
use Rattle.ng_pcap.specs.declared.capture.Capture.{Capture}
use Rattle.ng_call.specs.Found.{IsRead}
use Rattle.ng_call.specs.Parts.{AllPass}
use Rattle.ngctl_script.specs.declared.when.When.{When}
use Rattle.ng_args.specs.declared.words.ReplayWords.{ReplayWords}
use Rattle.ng_args.specs.declared.words.Source.TheVariants.{FromFiles}
use Rattle.ng_replay.specs.Call.{AllFound, IsAllFound, journal_steps, steps_in}
use Rattle.ng_replay.specs.declared.ended.ReplayFault.{ReplayFault}
use Rattle.ng_replay.specs.declared.reading.ReadAll.{ReadAll}
use Rattle.ng_replay.specs.declared.ended.ReplayFault.TheVariants.{NoMemory}

-- the fault has its cause in these steps, or memory ran out
abbrev pub Stops : Outside → List (Step ReplayFault) → ReplayFault → Type 0
Stops o steps fault = (fault ≡ NoMemory) ⊎ Refuses o steps fault

-- and of all that may be read
abbrev pub AllStop : Outside → ReplayWords → ReplayFault → Type 0
AllStop o words fault = (found : AllFound) × IsAllFound o.old.files words found × Stops o (steps_in words found) fault

-- all was read that the words name
pub record AllRead (files : List ℕ → Contents) (words : ReplayWords) (script : List (When × Command)) (commands : List Command) (captures : List Capture)
    (journal : List Event) : Type 0 where
  pub pass : AllPass files (FromFiles words.script words.ports) script commands captures
  pub bytes : List ℕ
  pub read : IsRead (files words.journal) bytes
  pub fine : first_fault files (journal_steps words.journal bytes) ≡ None
  pub journal_is : journal_of bytes ≡ Ok journal

-- the same of what the functions hand on
abbrev pub IsReadOf : (List ℕ → Contents) → ReplayWords → ReadAll → Type 0
IsReadOf files words read =
    AllRead files words read.given.script.script read.given.script.commands.items read.given.captures.items
    read.journal.items
