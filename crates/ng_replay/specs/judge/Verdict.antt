-- Which verdict a journal gets, for a beginning with all its inputs, a limit of applied items and a number of seats: by the
-- machine's own rules of which events are allowed where.
use Rattle.std.specs.Prelude.{◌≡◌, ◌⊎◌, ℕ, ◌+◌, List, [], ◌∷◌, ◌++◌, length}
use Rattle.ng_base.specs.declared.event.Event.{Event}
use Rattle.ng_machine.specs.Laws.{Setting, IsJournal, start}
use Rattle.ng_machine.specs.Orderly.{IsWhole}
use Rattle.ng_replay.specs.declared.judge.verdict.Verdict.{Verdict}
use Rattle.ng_replay.specs.declared.judge.verdict.Verdict.TheVariants.{Yes, No}

-- the event of this number, from 1, isn't allowed where it stands, and all before it are
pub record IsFirstRefused (s : Setting) (journal : List Event) (at : ℕ) : Type 0 where
  pub before : List Event
  pub event : Event
  pub rest : List Event
  pub parts : journal ≡ before ++ event ∷ rest
  pub number : at ≡ length before + 1
  pub allowed : IsJournal s before
  pub refused : IsJournal s (before ++ event ∷ []) → ⊥

-- all events are allowed, and the run doesn't end there; this is the number behind the last
pub record IsCutShort (s : Setting) (journal : List Event) (at : ℕ) : Type 0 where
  pub allowed : IsJournal s journal
  pub number : at ≡ length journal + 1
  pub unfinished : IsWhole (start s) s.given journal → ⊥

abbrev pub IsVerdict : Setting → List Event → Verdict → Type 0
IsVerdict s journal Yes = IsJournal s journal × IsWhole (start s) s.given journal
IsVerdict s journal (No at) = IsFirstRefused s journal at ⊎ IsCutShort s journal at
