-- Digits behind a number, and the line that stands at the front of a text.
use Rattle.std.proofs.Common.{◌≡◌, ℕ, ◌+◌, ◌-◌, ◌*◌, ◌/◌, ◌%◌, ◌^◌, ◌<◌, ◌≤◌, suc, List, [], ◌∷◌, ◌++◌, length, take, drop, get_or, refl, sym, ap, ◌∙◌, arith, append_assoc, add-one, Option, Some, length-append}
use Rattle.std.specs.Fmt.{decimal}
use Rattle.std.proofs.Math.Nat.{pow-suc, pow-le-pow_right}
use Rattle.std.proofs.Math.Seq.{drop-cons}
use Rattle.std.proofs.lemmas.Fmt.{decimal_digit, decimal_step}
use Rattle.ng_base.specs.declared.event.Event.{Event}
use Rattle.ng_journal.specs.Fronts.{BeginsWithNumber, BeginsWithLine, IsFirstEvent}
use Rattle.ng_journal.specs.Journal.{line_feed, event_words, event_line}
use Rattle.ng_journal.specs.Reading.{with_event, event_of, words_of, lines_of, events_from}
use Rattle.ng_journal.proofs.Events.{first_line}
use Rattle.ng_journal.proofs.Splits.{rest_is}
use Rattle.ng_journal.proofs.Written.{line_of_event, event_back}

digit_behind : (number digit : ℕ) (rest : List ℕ) → 1 ≤ number → digit < 10 → number * 10 + digit < 2 ^ 64 → decimal number ++ ((48 + digit) ∷ rest) ≡ decimal (number * 10 + digit) ++ rest
digit_behind number digit rest some low fits =
    let front : (number * 10 + digit) / 10 ≡ number = omega arith in
    let last : (number * 10 + digit) % 10 ≡ digit = omega arith in
    let step : decimal (number * 10 + digit) ≡ decimal number ++ ((48 + digit) ∷ []) = decimal_step (number * 10 + digit) (omega arith) fits ∙ rw (front, last) refl in
    rw step (sym (append_assoc (decimal number) ((48 + digit) ∷ []) rest))

-- where a digit stands next, it is the last of a number ten times as great and more
pub one_on : (number end : ℕ) (text : List ℕ) → 1 ≤ number → end < length text → 48 ≤ get_or text end 0 → get_or text end 0 ≤ 57 → number * 10 + (get_or text end 0 - 48) < 2 ^ 64
    → decimal number ++ drop end text ≡ decimal (number * 10 + (get_or text end 0 - 48)) ++ drop (end + 1) text
one_on number end text some within least most fits =
    let byte : get_or text end 0 ≡ 48 + (get_or text end 0 - 48) = omega arith in
    let next : drop end text ≡ (48 + (get_or text end 0 - 48)) ∷ drop (end + 1) text = rw add-one (drop-cons text end 0 within ∙ ap (λ (b : ℕ). b ∷ drop (suc end) text) byte) in
    ap (λ (bytes : List ℕ). decimal number ++ bytes) next ∙ digit_behind number (get_or text end 0 - 48) (drop (end + 1) text) some (omega arith) fits

-- a number of few digits is below a power of ten, and stays so
pub digit_more : (number digit end : ℕ) → number < 10 ^ (end + 1) → digit < 10 → number * 10 + digit < 10 ^ (end + 1 + 1)
digit_more number digit end short low =
    let step : 10 ^ (end + 1 + 1) ≡ 10 ^ (end + 1) * 10 = ap (λ (n : ℕ). 10 ^ n) (add-one (end + 1)) ∙ pow-suc 10 (end + 1) in
    omega arith

pub room_for_digit : (number end : ℕ) → number < 10 ^ (end + 1) → end < 18 → number < 10 ^ 18
room_for_digit number end short few =
    let most : 10 ^ (end + 1) ≤ 10 ^ 18 = pow-le-pow_right {n = 10} (omega arith) {i = end + 1} {j = 18} (omega arith) in
    omega arith

-- a text that isn't empty is its first byte and the range behind
first_and_rest : (text : List ℕ) → 1 ≤ length text → text ≡ get_or text 0 0 ∷ take (length text - 1) (drop 1 text)
first_and_rest [] some = absurd (omega arith)
first_and_rest (b ∷ bytes) some = ap (λ (rest : List ℕ). b ∷ rest) (sym (rest_is 1 (b ∷ bytes)))

-- a digit at the front of a text
first_digit : (digit : ℕ) (text : List ℕ) → 1 ≤ length text → digit < 10 → get_or text 0 0 ≡ 48 + digit → text ≡ decimal digit ++ take (length text - 1) (drop 1 text)
first_digit digit text some low byte =
    let rest = take (length text - 1) (drop 1 text) in
    first_and_rest text some
    ∙ ap (λ (b : ℕ). b ∷ rest) byte
    ∙ sym (ap (λ (digits : List ℕ). digits ++ rest) (decimal_digit digit low))

pub zero_first : (text : List ℕ) → 1 ≤ length text → get_or text 0 0 ≡ 48 → BeginsWithNumber text 0 (take (length text - 1) (drop 1 text))
zero_first text some byte = record {
  digits = first_digit 0 text some (omega arith) (omega arith);
  low = omega arith;
}

pub digits_first : (digit number : ℕ) (text rest : List ℕ) → 1 ≤ length text → digit < 10 → get_or text 0 0 ≡ 48 + digit
    → decimal digit ++ take (length text - 1) (drop 1 text) ≡ decimal number ++ rest → number < 2 ^ 64 → BeginsWithNumber text number rest
digits_first digit number text rest some low byte more fits = record {
  digits = first_digit digit text some low byte ∙ more;
  low = fits;
}

-- a line that is as it is written is read as its event
pub written_first : (text : List ℕ) (event : Event) (rest : List ℕ) → BeginsWithLine text event rest → IsFirstEvent text (Some event) rest
written_first text event rest begins = record {
  read = λ line.
      ap (λ (bytes : List ℕ). events_from line (lines_of bytes)) begins.line
      ∙ ap (events_from line) (line_of_event event rest begins.fits)
      ∙ first_line line (event_words event) rest
      ∙ rw (event_back event begins.fits) refl;
  shorter = (
      let all = ap length begins.line in
      let parts = length-append (event_line event) rest in
      let words = length-append (event_words event) (line_feed ∷ []) in
      omega arith
      );
}

-- and one that is cut off is read as its words say
pub cut_first : (text line rest : List ℕ) (event : Option Event) → lines_of text ≡ line ∷ lines_of rest → event ≡ event_of (words_of line) → length rest < length text → IsFirstEvent text event rest
cut_first text line rest event cut is less = record {
  read = λ number.
      ap (events_from number) cut
      ∙ first_line number line rest
      ∙ ap (λ (said : Option Event). with_event number said (events_from (number + 1) (lines_of rest))) (sym is);
  shorter = less;
}
