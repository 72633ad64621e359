-- What is written is read, and what is read was written.
use Rattle.std.specs.Prelude.{◌≡◌, ℕ, List, Ok}
use Rattle.std.specs.List.{AllByRecursion}
use Rattle.ng_base.specs.declared.event.Event.{Event}
use Rattle.ng_journal.specs.Journal.{Fits, journal_text}
use Rattle.ng_journal.specs.Reading.{journal_of}

abbrev pub WrittenIsRead : Type 0
WrittenIsRead = (journal : List Event) → AllByRecursion Fits journal → journal_of (journal_text journal) ≡ Ok journal

abbrev pub ReadWasWritten : Type 0
ReadWasWritten = (bytes : List ℕ) (journal : List Event) → journal_of bytes ≡ Ok journal → (bytes ≡ journal_text journal) × AllByRecursion Fits journal
