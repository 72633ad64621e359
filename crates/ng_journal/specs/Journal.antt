-- A journal as a file: a head, and a line for each event.
use Rattle.std.specs.Prelude.{ℕ, ◌^◌, ◌<◌, List, [], ◌∷◌, ◌++◌, codes}
use Rattle.std.specs.List.{flat_map}
use Rattle.std.specs.Fmt.{decimal}
use Rattle.ng_base.specs.declared.event.Event.{Event}
use Rattle.ng_base.specs.declared.event.Event.TheVariants.{Feed, Take, Back, Apply, Stop}

-- the bytes LF and blank
abbrev pub line_feed : ℕ
line_feed = 0x0a

abbrev pub blank : ℕ
blank = 0x20

abbrev pub event_words : Event → List ℕ
event_words Feed = codes "F"
event_words (Take seat id) = codes "T " ++ (decimal id.0 ++ (blank ∷ decimal seat))
event_words (Back id) = codes "B " ++ decimal id.0
event_words (Apply id) = codes "A " ++ decimal id.0
event_words Stop = codes "S"

abbrev pub event_line : Event → List ℕ
event_line event = event_words event ++ line_feed ∷ []

abbrev pub head : List ℕ
head = codes "ngjournal 1"

abbrev pub journal_text : List Event → List ℕ
journal_text journal = head ++ (line_feed ∷ flat_map event_line journal)

-- an event whose numbers fit into its fields, as each of the code's does
abbrev pub Fits : Event → Type 0
Fits Feed = Unit {0}
Fits (Take seat id) = (id.0 < 2 ^ 64) × (seat < 2 ^ 32)
Fits (Back id) = id.0 < 2 ^ 64
Fits (Apply id) = id.0 < 2 ^ 64
Fits Stop = Unit {0}
