-- What a replay says of the journal that a run wrote.
use Rattle.std.specs.Prelude.{◌≡◌, ℕ, List, [], ◌∷◌, map}
use Rattle.std.specs.List.{AllByRecursion}
use Rattle.ng_base.specs.declared.event.Event.{Event}
use Rattle.ng_base.specs.declared.kind.Kind.{Kind}
use Rattle.ng_journal.specs.Journal.{Fits, journal_text}
use Rattle.ng_args.specs.declared.port.PortWord.{PortWord}
use Rattle.ng_args.specs.declared.words.ReplayWords.{ReplayWords}
use Rattle.ng_args.specs.declared.words.Words.{Words}
use Rattle.ng_args.specs.Run.{ports_from}
use Rattle.ng_call.specs.Found.{Found}
use Rattle.ng_call.specs.Run.{IsRun, setting_in}
use Rattle.ng_call.specs.Writes.{text_in}
use Rattle.ng_replay.specs.judge.Verdict.{IsVerdict}
use Rattle.ng_replay.specs.declared.judge.verdict.Verdict.TheVariants as says
use Rattle.ng_replay.specs.Call.{AllFound, events_in, run_of, text_write, writes_by}

abbrev pub port_names : List PortWord → List (List ℕ)
port_names ports = map (λ port. port.name) ports

-- the words of a replay are those of the run, as far as they say what is run
pub record IsReplayOf (words : Words) (replayed : ReplayWords) : Type 0 where
  pub workers : replayed.workers ≡ words.workers
  pub budget : replayed.budget ≡ words.budget
  pub own_name : replayed.own_name ≡ words.own_name
  pub names : port_names replayed.ports ≡ port_names (ports_from words.source)

-- the same script and captures are read again, and the journal's text as it was written
abbrev pub read_again : Found → List Event → AllFound
read_again found journal = record { given = found; journal = journal_text journal }

-- the replay says yes, and what it then writes is the text of the run
pub record IsAccepted (kinds : List Kind) (words : Words) (found : Found) (journal : List Event)
    (replayed : ReplayWords) : Type 0 where
  pub yes : IsVerdict (setting_in kinds (run_of replayed) found) (events_in (read_again found journal)) says.Yes
  pub text :
      writes_by kinds replayed (read_again found journal) says.Yes ≡ text_write (text_in kinds words found journal) ∷ []

-- the journal of each run is accepted by its replay, with the text of that run
abbrev pub RunsAreAccepted : Type 0
RunsAreAccepted =
    (kinds : List Kind) (words : Words) (found : Found) (journal : List Event) (replayed : ReplayWords)
    → IsReplayOf words replayed → IsRun (setting_in kinds words found) words.workers journal
    → AllByRecursion Fits journal → IsAccepted kinds words found journal replayed
