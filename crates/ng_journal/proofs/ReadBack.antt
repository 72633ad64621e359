-- What is read was written.
use Rattle.std.proofs.Common.{◌≡◌, ℕ, ◌+◌, ◌^◌, ◌<◌, true, List, [], ◌∷◌, ◌++◌, codes, Option, option_map, Some, None, Result, Ok, Err, refl, sym, ◌∙◌, subst, arith, inl, inr, append_assoc}
use Rattle.std.specs.Fmt.{decimal}
use Rattle.std.specs.List.{AllByRecursion, flat_map, join_with_byte}
use Rattle.std.specs.Str.{bytes_eq}
use Rattle.std.proofs.lemmas.Bool.{cases_Bool}
use Rattle.std.proofs.lemmas.List.Splits.{join_with_byte-slice_split}
use Rattle.std.proofs.lemmas.Slice.Eq.{bytes_eq-Decides}
use Rattle.ng_base.specs.declared.event.Event.{Event}
use Rattle.ng_base.specs.declared.event.Event.TheVariants.{Feed, Take, Back, Apply, Stop}
use Rattle.ng_base.specs.declared.ids.ItemId.{ItemId}
use Rattle.ng_decimal.specs.Decimal.{number_from}
use Rattle.ng_decimal.proofs.Plain.{read_are_digits}
use Rattle.ng_journal.specs.Journal.{line_feed, blank, head, event_words, event_line, journal_text, Fits}
use Rattle.ng_journal.specs.Laws.{ReadWasWritten}
use Rattle.ng_journal.specs.Reading.{most_id, most_seat, id_of, take_of, plain_event, item_event, take_event, event_of, words_of, lines_of, with_event, at_end, events_from, journal_in}

-- an event and the words that say it
record IsSaid (event : Event) (bytes : List ℕ) : Type 0 where
  words : bytes ≡ event_words event
  fits : Fits event

same : (word letter : List ℕ) → bytes_eq word letter ≡ true → word ≡ letter
same word letter is = (bytes_eq-Decides word letter).0 is

said_as : (event other : Event) (bytes : List ℕ) → Some event ≡ Some other → IsSaid event bytes → IsSaid other bytes
said_as event other bytes is said = let e : event ≡ other = cc is in subst (λ (x : Event). IsSaid x bytes) e said

plain_said : (word : List ℕ) (event : Event) → plain_event word ≡ Some event → IsSaid event word
plain_said word event is = elim (cases_Bool (bytes_eq word (codes "F"))) [
  | inl feed ↦ said_as Feed event word (rw feed at is) (record { words = same word (codes "F") feed; fits = tt })
  | inr other ↦ elim (cases_Bool (bytes_eq word (codes "S"))) [
    | inl stop ↦ said_as Stop event word (rw (other, stop) at is) (record { words = same word (codes "S") stop; fits = tt })
    | inr neither ↦ let none : None ≡ Some event = rw (other, neither) at is in absurd (cc none)
  ]
]

-- a word that says an id
record IsId (id : ItemId) (word : List ℕ) : Type 0 where
  digits : word ≡ decimal id.0
  low : id.0 < 2 ^ 64

id_said : (word : List ℕ) (number : Option ℕ) (id : ItemId) → number_from 0 most_id word ≡ number → option_map (λ n. record { 0 = n }) number ≡ Some id → IsId id word
id_said word None id from is = absurd (cc is)
id_said word (Some n) id from is =
    let read = read_are_digits 0 most_id n word (omega arith) from in
    let low = read.2 in
    let own : ItemId = record { 0 = n } in
    let e : own ≡ id = cc is in
    subst (λ (x : ItemId). IsId x word) e (record { digits = read.0; low = omega arith })

back_said : (word id : List ℕ) (found : Option ItemId) (event : Event) → word ≡ codes "B" → id_of id ≡ found → option_map (λ n. Back n) found ≡ Some event
    → IsSaid event (word ++ (blank ∷ id))
back_said word id None event letter from is = absurd (cc is)
back_said word id (Some n) event letter from is =
    let said = id_said id (number_from 0 most_id id) n refl from in
    said_as (Back n) event (word ++ (blank ∷ id)) is (record { words = rw (letter, said.digits) refl; fits = said.low })

apply_said : (word id : List ℕ) (found : Option ItemId) (event : Event) → word ≡ codes "A" → id_of id ≡ found → option_map (λ n. Apply n) found ≡ Some event
    → IsSaid event (word ++ (blank ∷ id))
apply_said word id None event letter from is = absurd (cc is)
apply_said word id (Some n) event letter from is =
    let said = id_said id (number_from 0 most_id id) n refl from in
    said_as (Apply n) event (word ++ (blank ∷ id)) is (record { words = rw (letter, said.digits) refl; fits = said.low })

item_said : (word id : List ℕ) (event : Event) → item_event word id ≡ Some event → IsSaid event (word ++ (blank ∷ id))
item_said word id event is = elim (cases_Bool (bytes_eq word (codes "B"))) [
  | inl back ↦ back_said word id (id_of id) event (same word (codes "B") back) refl (rw back at is)
  | inr other ↦ elim (cases_Bool (bytes_eq word (codes "A"))) [
    | inl apply ↦ apply_said word id (id_of id) event (same word (codes "A") apply) refl (rw (other, apply) at is)
    | inr neither ↦ let none : None ≡ Some event = rw (other, neither) at is in absurd (cc none)
  ]
]

taken_said : (word id seat : List ℕ) (found : Option ItemId) (number : Option ℕ) (event : Event) → word ≡ codes "T" → id_of id ≡ found → number_from 0 most_seat seat ≡ number
    → take_of found number ≡ Some event → IsSaid event (word ++ (blank ∷ (id ++ (blank ∷ seat))))
taken_said word id seat None number event letter from at is = absurd (cc is)
taken_said word id seat (Some n) None event letter from at is = absurd (cc is)
taken_said word id seat (Some n) (Some m) event letter from at is =
    let said = id_said id (number_from 0 most_id id) n refl from in
    let read = read_are_digits 0 most_seat m seat (omega arith) at in
    let few = read.2 in
    said_as (Take m n) event (word ++ (blank ∷ (id ++ (blank ∷ seat)))) is (record { words = rw (letter, said.digits, read.0) refl; fits = (said.low, omega arith) })

take_said : (word id seat : List ℕ) (event : Event) → take_event word id seat ≡ Some event → IsSaid event (word ++ (blank ∷ (id ++ (blank ∷ seat))))
take_said word id seat event is = elim (cases_Bool (bytes_eq word (codes "T"))) [
  | inl take ↦ taken_said word id seat (id_of id) (number_from 0 most_seat seat) event (same word (codes "T") take) refl refl (rw take at is)
  | inr other ↦ let none : None ≡ Some event = rw other at is in absurd (cc none)
]

words_said : (words : List (List ℕ)) (event : Event) → event_of words ≡ Some event → IsSaid event (join_with_byte blank words)
words_said [] event is = absurd (cc is)
words_said (word ∷ []) event is = plain_said word event is
words_said (word ∷ id ∷ []) event is = item_said word id event is
words_said (word ∷ id ∷ seat ∷ []) event is = take_said word id seat event is
words_said (word ∷ id ∷ seat ∷ next ∷ words) event is = absurd (cc is)

line_said : (line : List ℕ) (event : Event) → event_of (words_of line) ≡ Some event → IsSaid event line
line_said line event is = subst (λ (bytes : List ℕ). IsSaid event bytes) (join_with_byte-slice_split blank line) (words_said (words_of line) event is)

-- lines that are read as events
record AreSaid (journal : List Event) (bytes : List ℕ) : Type 0 where
  lines : bytes ≡ flat_map event_line journal
  fit : AllByRecursion Fits journal

abbrev read_as : List Event → Result (List Event) ℕ
read_as journal = Ok journal

said_all : (journal other : List Event) (bytes : List ℕ) → read_as journal ≡ read_as other → AreSaid journal bytes → AreSaid other bytes
said_all journal other bytes is said = let e : journal ≡ other = cc is in subst (λ (x : List Event). AreSaid x bytes) e said

end_said : (line : ℕ) (last : List ℕ) (journal : List Event) → at_end line last ≡ Ok journal → AreSaid journal last
end_said line [] journal is = said_all [] journal [] is (record { lines = refl; fit = tt })
end_said line (byte ∷ bytes) journal is = absurd (cc is)

one_more : (text rest : List ℕ) (event : Event) (events : List Event) → IsSaid event text → AreSaid events rest → AreSaid (event ∷ events) (text ++ (line_feed ∷ rest))
one_more text rest event events said more = record {
  lines = rw (said.words, more.lines) (sym (append_assoc (event_words event) (line_feed ∷ []) (flat_map event_line events)));
  fit = (said.fits, more.fit);
}

step_said : (line : ℕ) (text : List ℕ) (parts : List (List ℕ)) (journal : List Event) (event : Option Event) (rest : Result (List Event) ℕ)
    → ((events : List Event) → events_from (line + 1) parts ≡ Ok events → AreSaid events (join_with_byte line_feed parts))
    → event_of (words_of text) ≡ event → events_from (line + 1) parts ≡ rest → with_event line event rest ≡ Ok journal
    → AreSaid journal (text ++ (line_feed ∷ join_with_byte line_feed parts))
step_said line text parts journal None rest behind from at is = absurd (cc is)
step_said line text parts journal (Some event) (Err later) behind from at is = absurd (cc is)
step_said line text parts journal (Some event) (Ok events) behind from at is =
    said_all (event ∷ events) journal (text ++ (line_feed ∷ join_with_byte line_feed parts)) is
    (one_more text (join_with_byte line_feed parts) event events (line_said text event from) (behind events at))

lines_said : (line : ℕ) (lines : List (List ℕ)) (journal : List Event) → events_from line lines ≡ Ok journal → AreSaid journal (join_with_byte line_feed lines)
lines_said line [] journal is = absurd (cc is)
lines_said line (last ∷ []) journal is = end_said line last journal is
lines_said line (text ∷ next ∷ lines) journal is =
    step_said line text (next ∷ lines) journal (event_of (words_of text)) (events_from (line + 1) (next ∷ lines))
    (λ events read. lines_said (line + 1) (next ∷ lines) events read) refl refl is

file_said : (lines : List (List ℕ)) (journal : List Event) → journal_in lines ≡ Ok journal → (join_with_byte line_feed lines ≡ journal_text journal) × AllByRecursion Fits journal
file_said [] journal is = absurd (cc is)
file_said (first ∷ []) journal is = absurd (cc is)
file_said (first ∷ next ∷ lines) journal is = elim (cases_Bool (bytes_eq first head)) [
  | inl headed ↦
      let said = lines_said 2 (next ∷ lines) journal (rw headed at is) in
      (rw (same first head headed, said.lines) refl, said.fit)
  | inr other ↦ let bad : Err 1 ≡ Ok journal = rw other at is in absurd (cc bad)
]

pub read_was_written : ReadWasWritten
read_was_written bytes journal is =
    let said = file_said (lines_of bytes) journal is in
    (sym (join_with_byte-slice_split line_feed bytes) ∙ said.0, said.1)
