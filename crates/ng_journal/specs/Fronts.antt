-- What stands at the front of a text: a number, a line as it is written, an event of a journal.
use Rattle.std.specs.Prelude.{◌≡◌, ℕ, ◌+◌, ◌^◌, ◌<◌, List, ◌++◌, length, Option}
use Rattle.std.specs.Fmt.{decimal}
use Rattle.ng_base.specs.declared.event.Event.{Event}
use Rattle.ng_journal.specs.Journal.{event_line, Fits}
use Rattle.ng_journal.specs.Reading.{lines_of, with_event, events_from}

-- a number of 64 bits in its digits, and what stands behind
pub record BeginsWithNumber (text : List ℕ) (number : ℕ) (rest : List ℕ) : Type 0 where
  pub digits : text ≡ decimal number ++ rest
  pub low : number < 2 ^ 64

-- an event's line as it is written, and what stands behind
pub record BeginsWithLine (text : List ℕ) (event : Event) (rest : List ℕ) : Type 0 where
  pub line : text ≡ event_line event ++ rest
  pub fits : Fits event

-- the event that the first line says, if it says one, and what stands behind the line
pub record IsFirstEvent (text : List ℕ) (event : Option Event) (rest : List ℕ) : Type 0 where
  pub read : (line : ℕ) → events_from line (lines_of text) ≡ with_event line event (events_from (line + 1) (lines_of rest))
  pub shorter : length rest < length text
