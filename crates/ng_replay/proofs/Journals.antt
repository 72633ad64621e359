-- The steps of the journal's file.
use Rattle.std.proofs.Common.{◌≡◌, inl, inr, ◌∙◌, ℕ, ◌<◌, ◌≤◌, List, [], length, None, Ok, Err, refl, ap}
use Rattle.ng_base.specs.declared.event.Event.{Event}
use Rattle.ng_call.specs.ending.Outside.{Outside, FileRose}
use Rattle.ng_call.specs.ending.Steps.{MayBeThere, first_fault}
use Rattle.ng_call.proofs.ending.Lists.{read_well}
use Rattle.ng_journal.specs.Reading.{journal_of}
use Rattle.ng_outside.specs.Contents.{IfHolds}
use Rattle.ng_call.specs.Found.{IsRead}
use Rattle.ng_call.proofs.Files.{big_read, check_first, check_later, checks_fine, over_is, over_none, told_or_empty, told_read}
use Rattle.ng_replay.specs.Call.{bad_line, journal_steps, most_journal}
use Rattle.ng_replay.specs.Parts.{Stops}
use Rattle.ng_replay.specs.declared.ended.Given.TheVariants as given
use Rattle.ng_replay.specs.declared.ended.ReplayFault.{ReplayFault}
use Rattle.ng_replay.specs.declared.ended.ReplayFault.TheVariants.{Journal, NoMemory, ReadFault, TooBig}

module _ (o : Outside) (name : List ℕ) where
  -- some bytes that may be read of the file, of which the steps stop with this fault
  abbrev JournalStops : ReplayFault → Type 0
  JournalStops fault = (bytes : List ℕ) × IsRead (o.old.files name) bytes × Stops o (journal_steps name bytes) fault

  pub journal_unread : FileRose o name → JournalStops (ReadFault given.Journal)
  journal_unread rose = (told_or_empty (o.old.files name), told_read (o.old.files name), inr (inl (refl, rose)))

  pub journal_big : MayBeThere (o.old.files name) → IfHolds (o.old.files name) (λ bytes. most_journal < length bytes) → JournalStops (TooBig given.Journal)
  journal_big there big =
      let found = big_read (o.old.files name) most_journal there big in
      (found.0, found.1, inr (inr (there, check_first o _ _ _ (over_is most_journal (length found.0) (TooBig given.Journal) found.2))))

  pub journal_memory : JournalStops NoMemory
  journal_memory = (told_or_empty (o.old.files name), told_read (o.old.files name), inl refl)

  module _ (bytes : List ℕ) (there : MayBeThere (o.old.files name)) (fits : length bytes ≤ most_journal) where
    pub journal_fine : (events : List Event) → journal_of bytes ≡ Ok events → first_fault o.old.files (journal_steps name bytes) ≡ None
    journal_fine events is =
        read_well (o.old.files name) (ReadFault given.Journal) _ there
        ∙ checks_fine o.old.files _ _ [] (over_none most_journal (length bytes) (TooBig given.Journal) fits) (ap bad_line is) refl

    pub journal_wrong : (line : ℕ) → journal_of bytes ≡ Err line → Stops o (journal_steps name bytes) (Journal line)
    journal_wrong line is =
        inr (inr (there, check_later o _ _ _ (over_none most_journal (length bytes) (TooBig given.Journal) fits) (check_first o _ _ _ (ap bad_line is))))
