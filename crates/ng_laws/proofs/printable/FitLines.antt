-- What a command of a script writes is no longer than its line.
use Rattle.std.proofs.Common.{◌≡◌, ℕ, suc, ◌≤◌, Bool, true, false, not, cond, List, [], ◌∷◌, length, inl, inr, refl, arith, Result, Ok, Err}
use Rattle.std.specs.Prelude.{Option, Some, None}
use Rattle.std.specs.List.{list_all, slice_split}
use Rattle.std.specs.Str.{bytes_eq}
use Rattle.std.specs.Prelude.{codes}
use Rattle.std.proofs.lemmas.Bool.{cases_Bool}
use Rattle.std.proofs.lemmas.List.Splits.{length-slice_split}
use Rattle.std.proofs.lemmas.List.Sums.{length-filter, count_by-le-length}
use Rattle.ng_base.specs.Name.{is_name}
use Rattle.ng_machine.specs.declared.command.What.{What}
use Rattle.ng_machine.specs.Feed.{request_of}
use Rattle.ng_machine.specs.KnownRun.{FitsRequest}
use Rattle.ng_parse.specs.Tokens.{number_in}
use Rattle.ngctl_script.specs.Lines.{is_blank, is_empty}
use Rattle.ngctl_script.specs.Words.{words_in}
use Rattle.ngctl_script.specs.declared.verb.Verb.{Verb}
use Rattle.ngctl_script.specs.declared.verb.Verb.TheVariants.{Config, Connect, Help, List as Lists, Mkpeer, Msg, Name, Quit, Rmhook, Show, Shutdown, Status, Types, Write}
use Rattle.ngctl_script.specs.Commands.{named}
use Rattle.ngctl_script.specs.Forms.{is_path, in_form, byte_of, with_byte, bytes_in, write_of, help_of, asked, asked_by, what_of_words, what_of}

abbrev FitsWhat : What → Type 0
FitsWhat what = FitsRequest (request_of what)

form_fits : (names paths : List (List ℕ)) (what : What) → FitsWhat what → FitsWhat (in_form names paths what)
form_fits names paths what fits = elim (cases_Bool (list_all is_name names)) [
  | inl is ↦ elim (cases_Bool (list_all is_path paths)) [ inl good ↦ rw (is, good) fits | inr bad ↦ rw (is, bad) tt ]
  | inr not ↦ rw not tt
]

-- as many bytes as words
abbrev AsMany : ℕ → Option (List ℕ) → Type 0
AsMany n None = Unit {0}
AsMany n (Some bytes) = length bytes ≡ n

one_byte : (n : ℕ) (byte : Option ℕ) (bytes : Option (List ℕ)) → AsMany n bytes → AsMany (suc n) (with_byte byte bytes)
one_byte n None bytes many = tt
one_byte n (Some byte) None many = tt
one_byte n (Some byte) (Some bytes) many = omega (arith, many)

bytes_count : (words : List (List ℕ)) → AsMany (length words) (bytes_in words)
bytes_count [] = refl
bytes_count (word ∷ words) = one_byte (length words) (byte_of (number_in word)) (bytes_in words) (bytes_count words)

write_fits : (hook : List ℕ) (n : ℕ) (bytes : Option (List ℕ)) → n ≤ 262144 → AsMany n bytes → FitsWhat (write_of hook bytes)
write_fits hook n None le many = tt
write_fits hook n (Some bytes) le many = omega (arith, many)

help_fits : (word : List ℕ) (verb : Result Verb (List ℕ)) → FitsWhat (help_of word verb)
help_fits word (Ok verb) = tt
help_fits word (Err why) = tt

choice_fits : (test : Bool) (a b : What) → FitsWhat a → FitsWhat b → FitsWhat (cond test a b)
choice_fits true a b one other = one
choice_fits false a b one other = other

verb_fits : (verb : Verb) (line : List ℕ) (words : List (List ℕ)) → length words ≤ 262144 → FitsWhat (asked verb line words)
verb_fits Config line [] le = tt
verb_fits Config line (path ∷ args) le = form_fits [] (path ∷ []) _ tt
verb_fits Connect line [] le = tt
verb_fits Connect line (a ∷ []) le = tt
verb_fits Connect line (a ∷ b ∷ []) le = tt
verb_fits Connect line (a ∷ b ∷ c ∷ []) le = form_fits (b ∷ c ∷ []) (a ∷ []) _ tt
verb_fits Connect line (a ∷ b ∷ c ∷ d ∷ []) le = form_fits (c ∷ d ∷ []) (a ∷ b ∷ []) _ tt
verb_fits Connect line (a ∷ b ∷ c ∷ d ∷ e ∷ words) le = tt
verb_fits Help line [] le = tt
verb_fits Help line (word ∷ []) le = help_fits word (named word)
verb_fits Help line (word ∷ next ∷ words) le = tt
verb_fits Lists line [] le = tt
verb_fits Lists line (word ∷ []) le = choice_fits (bytes_eq word (codes "-n")) _ _ tt tt
verb_fits Lists line (word ∷ next ∷ words) le = tt
verb_fits Mkpeer line [] le = tt
verb_fits Mkpeer line (a ∷ []) le = tt
verb_fits Mkpeer line (a ∷ b ∷ []) le = tt
verb_fits Mkpeer line (a ∷ b ∷ c ∷ []) le = form_fits (a ∷ b ∷ c ∷ []) [] _ tt
verb_fits Mkpeer line (a ∷ b ∷ c ∷ d ∷ []) le = form_fits (b ∷ c ∷ d ∷ []) (a ∷ []) _ tt
verb_fits Mkpeer line (a ∷ b ∷ c ∷ d ∷ e ∷ words) le = tt
verb_fits Msg line [] le = tt
verb_fits Msg line (a ∷ []) le = tt
verb_fits Msg line (a ∷ b ∷ words) le = form_fits [] (a ∷ []) _ tt
verb_fits Name line [] le = tt
verb_fits Name line (a ∷ []) le = tt
verb_fits Name line (a ∷ b ∷ []) le = form_fits (b ∷ []) (a ∷ []) _ tt
verb_fits Name line (a ∷ b ∷ c ∷ words) le = tt
verb_fits Quit line [] le = tt
verb_fits Quit line (word ∷ words) le = tt
verb_fits Rmhook line [] le = tt
verb_fits Rmhook line (a ∷ []) le = form_fits (a ∷ []) [] _ tt
verb_fits Rmhook line (a ∷ b ∷ []) le = form_fits (b ∷ []) (a ∷ []) _ tt
verb_fits Rmhook line (a ∷ b ∷ c ∷ words) le = tt
verb_fits Show line [] le = tt
verb_fits Show line (a ∷ []) le = form_fits [] (a ∷ []) _ tt
verb_fits Show line (a ∷ b ∷ []) le = choice_fits (bytes_eq a (codes "-n")) _ _ (form_fits [] (b ∷ []) _ tt) tt
verb_fits Show line (a ∷ b ∷ c ∷ words) le = tt
verb_fits Shutdown line [] le = tt
verb_fits Shutdown line (a ∷ []) le = form_fits [] (a ∷ []) _ tt
verb_fits Shutdown line (a ∷ b ∷ words) le = tt
verb_fits Status line [] le = tt
verb_fits Status line (a ∷ []) le = form_fits [] (a ∷ []) _ tt
verb_fits Status line (a ∷ b ∷ words) le = tt
verb_fits Types line [] le = tt
verb_fits Types line (word ∷ words) le = tt
verb_fits Write line [] le = tt
verb_fits Write line (a ∷ []) le = tt
verb_fits Write line (a ∷ b ∷ words) le =
    form_fits (a ∷ []) [] (write_of a (bytes_in (b ∷ words)))
    (write_fits a (length (b ∷ words)) (bytes_in (b ∷ words)) (omega arith) (bytes_count (b ∷ words)))

words_fit : (first : Result Verb (List ℕ)) (line : List ℕ) (words : List (List ℕ)) → length words ≤ 262144 → FitsWhat (asked_by first line words)
words_fit (Ok verb) line words le = verb_fits verb line words le
words_fit (Err why) line words le = tt

line_fits : (line : List ℕ) (words : List (List ℕ)) → length words ≤ 262144 → FitsWhat (what_of_words line words)
line_fits line [] le = tt
line_fits line (first ∷ words) le = words_fit (named first) line words (omega arith)

-- there are no more words than bytes, but one
pub line_asks_fit : (line : List ℕ) → length line ≤ 4096 → FitsWhat (what_of line)
line_asks_fit line short =
    let parts = slice_split is_blank line in
    let most : length (words_in line) ≤ length parts =
    omega (arith, length-filter (λ word. not (is_empty word)) parts, count_by-le-length (λ word. not (is_empty word)) parts) in
    line_fits line (words_in line) (omega (arith, length-slice_split is_blank line, count_by-le-length is_blank line))
