-- What is written is read.
use Rattle.std.proofs.Common.{◌≡◌, ℕ, ◌+◌, ◌%◌, ◌^◌, ◌<◌, ◌==◌, false, List, [], ◌∷◌, ◌++◌, Some, Ok, refl, ap, ◌∙◌, arith, append_assoc}
use Rattle.std.specs.Fmt.{decimal}
use Rattle.std.specs.List.{All, AllByRecursion, flat_map}
use Rattle.std.proofs.lemmas.Bool.Decides.{nat_tests}
use Rattle.std.proofs.lemmas.Fmt.{decimal_by_steps}
use Rattle.std.proofs.lemmas.List.Elements.{All-from_recursion}
use Rattle.std.proofs.lemmas.List.Splits.{slice_split_at, slice_split_none}
use Rattle.ng_base.specs.declared.event.Event.{Event}
use Rattle.ng_base.specs.declared.event.Event.TheVariants.{Feed, Take, Back, Apply, Stop}
use Rattle.ng_decimal.proofs.Plain.{digits_are_read}
use Rattle.ng_journal.specs.Journal.{line_feed, blank, head, event_words, event_line, journal_text, Fits}
use Rattle.ng_journal.specs.Laws.{WrittenIsRead}
use Rattle.ng_journal.specs.Reading.{most_id, most_seat, event_of, words_of, lines_of, events_from}
use Rattle.ng_journal.proofs.Events.{first_line, read_on}

abbrev Above : ℕ → List ℕ → Type 0
Above c bytes = AllByRecursion (λ b. c < b) bytes

both : (c : ℕ) (front behind : List ℕ) → Above c front → Above c behind → Above c (front ++ behind)
both c [] behind some more = more
both c (b ∷ front) behind some more = (some.0, both c front behind some.1 more)

digits_above : (n : ℕ) → n < 2 ^ 64 → Above 0x20 (decimal n)
digits_above n low = decimal_by_steps (λ n ds. Above 0x20 ds) (λ n below. (omega arith, tt))
    (λ n ds big all. both 0x20 ds ((48 + n % 10) ∷ []) all (omega arith, tt)) n low

wider : (bytes : List ℕ) → Above 0x20 bytes → Above 0x0a bytes
wider [] all = tt
wider (b ∷ bytes) all = ((let first = all.0 in omega arith), wider bytes all.1)

none_is : (c : ℕ) (bytes : List ℕ) → Above c bytes → AllByRecursion (λ b. (b == c) ≡ false) bytes
none_is c [] all = tt
none_is c (b ∷ bytes) all = ((let first = all.0 in grind (arith, nat_tests)), none_is c bytes all.1)

none : (c : ℕ) (bytes : List ℕ) → Above c bytes → All (λ b. (b == c) ≡ false) bytes
none c bytes all = All-from_recursion (λ b. (b == c) ≡ false) bytes (none_is c bytes all)

lone_word : (n : ℕ) → n < 2 ^ 64 → words_of (decimal n) ≡ decimal n ∷ []
lone_word n low = slice_split_none (λ b. b == blank) (decimal n) (none blank (decimal n) (digits_above n low))

two_words : (n m : ℕ) → n < 2 ^ 64 → m < 2 ^ 64 → words_of (decimal n ++ (blank ∷ decimal m)) ≡ decimal n ∷ decimal m ∷ []
two_words n m low few =
    slice_split_at (λ b. b == blank) (decimal n) blank (decimal m) (none blank (decimal n) (digits_above n low)) refl
    ∙ ap (λ (rest : List (List ℕ)). decimal n ∷ rest) (lone_word m few)

pub event_back : (event : Event) → Fits event → event_of (words_of (event_words event)) ≡ Some event
event_back Feed fits = refl
event_back Stop fits = refl
event_back (Back id) fits = rw (lone_word id.0 fits, digits_are_read 0 most_id id.0 fits (omega arith) (omega arith)) refl
event_back (Apply id) fits = rw (lone_word id.0 fits, digits_are_read 0 most_id id.0 fits (omega arith) (omega arith)) refl
event_back (Take seat id) fits =
    let low = fits.0 in
    let few = fits.1 in
    let fit : seat < 2 ^ 64 = omega arith in
    rw (two_words id.0 seat low fit, digits_are_read 0 most_id id.0 low (omega arith) (omega arith), digits_are_read 0 most_seat seat fit (omega arith) (omega arith)) refl

words_above : (event : Event) → Fits event → Above 0x0a (event_words event)
words_above Feed fits = (omega arith, tt)
words_above Stop fits = (omega arith, tt)
words_above (Back id) fits = (omega arith, (omega arith, wider (decimal id.0) (digits_above id.0 fits)))
words_above (Apply id) fits = (omega arith, (omega arith, wider (decimal id.0) (digits_above id.0 fits)))
words_above (Take seat id) fits =
    let few = fits.1 in
    let fit : seat < 2 ^ 64 = omega arith in
    let behind : Above 0x0a (blank ∷ decimal seat) = (omega arith, wider (decimal seat) (digits_above seat fit)) in
    (omega arith, (omega arith, both 0x0a (decimal id.0) (blank ∷ decimal seat) (wider (decimal id.0) (digits_above id.0 fits.0)) behind))

pub line_of_event : (event : Event) (rest : List ℕ) → Fits event → lines_of (event_line event ++ rest) ≡ event_words event ∷ lines_of rest
line_of_event event rest fits =
    ap (λ (bytes : List ℕ). lines_of bytes) (append_assoc (event_words event) (line_feed ∷ []) rest)
    ∙ slice_split_at (λ b. b == line_feed) (event_words event) line_feed rest (none line_feed (event_words event) (words_above event fits)) refl

events_back : (line : ℕ) (journal : List Event) → AllByRecursion Fits journal → events_from line (lines_of (flat_map event_line journal)) ≡ Ok journal
events_back line [] fits = refl
events_back line (event ∷ journal) fits =
    let rest = flat_map event_line journal in
    ap (events_from line) (line_of_event event rest fits.0) ∙ first_line line (event_words event) rest
    ∙ rw (event_back event fits.0, events_back (line + 1) journal fits.1) refl

pub written_is_read : WrittenIsRead
written_is_read journal fits =
    let rest = flat_map event_line journal in
    read_on (journal_text journal) head rest refl refl ∙ events_back 2 journal fits
