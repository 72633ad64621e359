-- What the bytes of a file are: a journal, or the first line that no journal has there.
use Rattle.std.specs.Prelude.{◌≡◌, ℕ, ◌+◌, ◌==◌, if◌then◌else◌, List, [], ◌∷◌, codes, option_map, Option, Some, None, Result, Ok, Err}
use Rattle.std.specs.List.{slice_split}
use Rattle.std.specs.Str.{bytes_eq}
use Rattle.ng_base.specs.declared.event.Event.{Event}
use Rattle.ng_base.specs.declared.event.Event.TheVariants.{Feed, Take, Back, Apply, Stop}
use Rattle.ng_base.specs.declared.ids.ItemId.{ItemId}
use Rattle.ng_decimal.specs.Decimal.{number_from}
use Rattle.ng_journal.specs.declared.fault.JournalFault.{JournalFault}
use Rattle.ng_journal.specs.declared.fault.JournalFault.TheVariants.{BadLine, NoMemory}
use Rattle.ng_journal.specs.Journal.{line_feed, blank, head}

abbrev pub most_id : ℕ
most_id = 0xffff_ffff_ffff_ffff

abbrev pub most_seat : ℕ
most_seat = 0xffff_ffff

abbrev pub id_of : List ℕ → Option ItemId
id_of word = option_map (λ n. record { 0 = n }) (number_from 0 most_id word)

abbrev pub take_of : Option ItemId → Option ℕ → Option Event
take_of None seat = None
take_of (Some id) None = None
take_of (Some id) (Some seat) = Some (Take seat id)

abbrev pub plain_event : List ℕ → Option Event
plain_event word = if bytes_eq word (codes "F") then Some Feed else if bytes_eq word (codes "S") then Some Stop else None

abbrev pub item_event : List ℕ → List ℕ → Option Event
item_event word id =
    if bytes_eq word (codes "B") then option_map (λ n. Back n) (id_of id)
    else if bytes_eq word (codes "A") then option_map (λ n. Apply n) (id_of id)
    else None

abbrev pub take_event : List ℕ → List ℕ → List ℕ → Option Event
take_event word id seat = if bytes_eq word (codes "T") then take_of (id_of id) (number_from 0 most_seat seat) else None

-- the event that words say
abbrev pub event_of : List (List ℕ) → Option Event
event_of [] = None
event_of (word ∷ []) = plain_event word
event_of (word ∷ id ∷ []) = item_event word id
event_of (word ∷ id ∷ seat ∷ []) = take_event word id seat
event_of (word ∷ id ∷ seat ∷ more) = None

abbrev pub words_of : List ℕ → List (List ℕ)
words_of line = slice_split (λ b. b == blank) line

abbrev pub lines_of : List ℕ → List (List ℕ)
lines_of bytes = slice_split (λ b. b == line_feed) bytes

abbrev pub with_event : ℕ → Option Event → Result (List Event) ℕ → Result (List Event) ℕ
with_event line None rest = Err line
with_event line (Some event) (Ok events) = Ok (event ∷ events)
with_event line (Some event) (Err later) = Err later

-- what stands behind the last LF is nothing
abbrev pub at_end : ℕ → List ℕ → Result (List Event) ℕ
at_end line [] = Ok []
at_end line (byte ∷ bytes) = Err line

-- the events of the lines from a line on
abbrev pub events_from : ℕ → List (List ℕ) → Result (List Event) ℕ
events_from line [] = Err line
events_from line (last ∷ []) = at_end line last
events_from line (text ∷ next ∷ lines) = with_event line (event_of (words_of text)) (events_from (line + 1) (next ∷ lines))

abbrev pub journal_in : List (List ℕ) → Result (List Event) ℕ
journal_in [] = Err 1
journal_in (first ∷ []) = Err 1
journal_in (first ∷ next ∷ lines) = if bytes_eq first head then events_from 2 (next ∷ lines) else Err 1

-- the events, or the number of the first line that isn't as a journal has it
abbrev pub journal_of : List ℕ → Result (List Event) ℕ
journal_of bytes = journal_in (lines_of bytes)

-- a fault that is told is the one that was found; out of memory alone has no cause
abbrev pub IsTold : Result (List Event) ℕ → JournalFault → Type 0
IsTold read NoMemory = Unit {0}
IsTold read (BadLine line) = read ≡ Err line
