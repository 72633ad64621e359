-- Events that were read in front of others.
use Rattle.std.proofs.Common.{◌≡◌, ℕ, ◌+◌, ◌==◌, List, [], ◌∷◌, ◌++◌, Some, Result, Ok, Err, refl, sym, ap, ◌∙◌, append_assoc, true}
use Rattle.std.specs.Str.{bytes_eq}
use Rattle.ng_base.specs.declared.event.Event.{Event}
use Rattle.ng_journal.specs.Fronts.{IsFirstEvent}
use Rattle.ng_journal.specs.Journal.{line_feed, head}
use Rattle.ng_journal.specs.Reading.{with_event, event_of, words_of, lines_of, events_from, journal_of}
use Rattle.ng_journal.proofs.Splits.{some_part}

abbrev pub onto : List Event → Result (List Event) ℕ → Result (List Event) ℕ
onto events (Ok more) = Ok (events ++ more)
onto events (Err line) = Err line

-- a line and what stands behind it
pub first_line : (line : ℕ) (text rest : List ℕ) → events_from line (text ∷ lines_of rest) ≡ with_event line (event_of (words_of text)) (events_from (line + 1) (lines_of rest))
first_line line text rest =
    let more = some_part (λ b. b == line_feed) rest in
    rw (more.2) refl

onto_more : (events : List Event) (event : Event) (line : ℕ) (rest : Result (List Event) ℕ) → onto events (with_event line (Some event) rest) ≡ onto (events ++ event ∷ []) rest
onto_more events event line (Ok more) = ap (λ (all : List Event). Ok all) (sym (append_assoc events (event ∷ []) more))
onto_more events event line (Err later) = refl

-- behind the head stand events
pub read_on : (bytes first rest : List ℕ) → lines_of bytes ≡ first ∷ lines_of rest → bytes_eq first head ≡ true → journal_of bytes ≡ events_from 2 (lines_of rest)
read_on bytes first rest cut is_head =
    let more = some_part (λ b. b == line_feed) rest in
    rw (cut, more.2, is_head) refl

-- a line that says an event is read on from
pub onward : (events : List Event) (event : Event) (line : ℕ) (rest behind : List ℕ) → IsFirstEvent rest (Some event) behind
    → onto events (events_from line (lines_of rest)) ≡ onto (events ++ event ∷ []) (events_from (line + 1) (lines_of behind))
onward events event line rest behind first = ap (onto events) (first.read line) ∙ onto_more events event line (events_from (line + 1) (lines_of behind))
