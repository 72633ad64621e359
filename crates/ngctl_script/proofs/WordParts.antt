-- The next word of a text, and what is behind it.
use Rattle.std.proofs.Common.{◌≡◌, ℕ, ◌-◌, ◌<◌, ◌≤◌, zero, suc, true, false, not, List, [], ◌∷◌, filter, take, drop, length, position, Some, None, refl, sym, ap, subst, ◌∙◌, arith, inl, inr}
use Rattle.std.specs.List.{slice_split}
use Rattle.std.proofs.lemmas.Bool.{cases_Bool, cond-true, cond-false, false≢true}
use Rattle.std.proofs.lemmas.Grind.{common_steps}
use Rattle.std.proofs.lemmas.List.Splits.{slice_split-cons_yes}
use Rattle.ngctl_script.specs.Lines.{is_empty, is_blank, past_blanks}
use Rattle.ngctl_script.specs.Words.{words_in, past_word}
use Rattle.ngctl_script.proofs.Splits.{IsFree, IsSplitAt, split_at_place, split_free, free_nowhere, rest_is, nothing_left}

abbrev words_among : List (List ℕ) → List (List ℕ)
words_among parts = filter (λ word. not (is_empty word)) parts

-- a blank in front is no part of a word
pub words_past_blank : (b : ℕ) (text : List ℕ) → is_blank b ≡ true → words_in (b ∷ text) ≡ words_in text
words_past_blank b text blank = ap words_among (slice_split-cons_yes is_blank b text blank)

pub words_past_blanks : (text : List ℕ) → words_in text ≡ words_in (past_blanks text)
words_past_blanks [] = refl
words_past_blanks (b ∷ text) = elim (cases_Bool (is_blank b)) [
  | inl blank ↦ words_past_blank b text blank ∙ words_past_blanks text ∙ ap words_in (sym (cond-true (is_blank b) (past_blanks text) (b ∷ text) blank))
  | inr other ↦ ap words_in (sym (cond-false (is_blank b) (past_blanks text) (b ∷ text) other))
]

pub shorter_past_blanks : (text : List ℕ) → length (past_blanks text) ≤ length text
shorter_past_blanks [] = omega arith
shorter_past_blanks (b ∷ text) = let less = shorter_past_blanks text in elim (cases_Bool (is_blank b)) [
  | inl blank ↦ (let e = ap length (cond-true (is_blank b) (past_blanks text) (b ∷ text) blank) in omega arith)
  | inr other ↦ (let e = ap length (cond-false (is_blank b) (past_blanks text) (b ∷ text) other) in omega arith)
]

-- what is left begins with no blank
head_other : (text : List ℕ) (hit : ℕ) (rest : List ℕ) → past_blanks text ≡ hit ∷ rest → is_blank hit ≡ false
head_other [] hit rest e = absurd (cc e)
head_other (b ∷ text) hit rest e = elim (cases_Bool (is_blank b)) [
  | inl blank ↦ head_other text hit rest (sym (cond-true (is_blank b) (past_blanks text) (b ∷ text) blank) ∙ e)
  | inr other ↦ (
      let both : b ∷ text ≡ hit ∷ rest = sym (cond-false (is_blank b) (past_blanks text) (b ∷ text) other) ∙ e in
      let same : b ≡ hit = cc both in ap is_blank (sym same) ∙ other)
]

-- a text without blanks in front begins with a word
pub record BeginsWithWord (text : List ℕ) (n : ℕ) : Type 0 where
  pub words : words_in text ≡ take n text ∷ words_in (drop n text)
  pub behind : past_word text ≡ drop n text

past_free : (xs rest : List ℕ) (n : ℕ) → IsFree is_blank (take n xs) → (hit : ℕ) → is_blank hit ≡ true → drop n xs ≡ hit ∷ rest → past_word xs ≡ drop n xs
past_free [] rest zero free hit passes e = refl
past_free [] rest (suc n) free hit passes e = refl
past_free (x ∷ xs) rest zero free hit passes e =
    let same : x ≡ hit = cc e in
    let blank : is_blank x ≡ true = rw same passes in
    rw blank refl
past_free (x ∷ xs) rest (suc n) free hit passes e = rw free.0 (past_free xs rest n free.1 hit passes e)

past_all : (xs : List ℕ) → IsFree is_blank xs → past_word xs ≡ []
past_all [] free = refl
past_all (x ∷ xs) free = rw free.0 (past_all xs free.1)

some_word : (word : List ℕ) (n : ℕ) (words : List (List ℕ)) → length word ≡ suc n → words_among (word ∷ words) ≡ word ∷ words_among words
some_word [] n words e = absurd (omega arith)
some_word (b ∷ word) n words e = refl

pub word_at_place : (text : List ℕ) (place n : ℕ) → length (take place text) ≡ suc n → position is_blank text ≡ Some place → BeginsWithWord text place
word_at_place text place n some found =
    let split = split_at_place is_blank text place found in
    record {
      words = ap words_among split.parts ∙ some_word (take place text) n (slice_split is_blank (drop (suc place) text)) some
          ∙ ap (λ (words : List (List ℕ)). take place text ∷ words)
          (sym (ap words_in split.behind ∙ words_past_blank split.hit (drop (suc place) text) split.passes));
      behind = past_free text (drop (suc place) text) place split.free split.hit split.passes split.behind;
    }

-- behind the blanks in front stands a word, where anything does
pub record IsNextWord (text word behind : List ℕ) : Type 0 where
  pub words : words_in text ≡ word ∷ words_in behind
  pub rest : behind ≡ past_word (past_blanks text)
  pub shorter : length behind < length text

some_before : (text t : List ℕ) (place : ℕ) → t ≡ past_blanks text → IsSplitAt is_blank t place → length (take place t) ≡ suc (length (take place t) - 1)
some_before text t zero same split = absurd (false≢true (sym (head_other text split.hit (drop 1 t) (sym same ∙ split.behind)) ∙ split.passes))
some_before text [] (suc place) same split = absurd (let e = split.behind in cc e)
some_before text (b ∷ t) (suc place) same split = omega arith

shorter_behind : (t : List ℕ) (n : ℕ) → length (take n t) ≡ suc (length (take n t) - 1) → length (drop n t) < length t
shorter_behind t n some = grind (arith, common_steps)

pub next_at_place : (text t : List ℕ) (place : ℕ) → t ≡ past_blanks text → position is_blank t ≡ Some place
    → IsNextWord text (take place t) (take (length t - place) (drop place t))
next_at_place text t place same found =
    let some = some_before text t place same (split_at_place is_blank t place found) in
    let begins = word_at_place t place (length (take place t) - 1) some found in
    let at : drop place t ≡ take (length t - place) (drop place t) = sym (rest_is place t) in
    let P : List ℕ → Type 0 = λ (behind : List ℕ). IsNextWord text (take place t) behind in
    subst P at (record {
      words = words_past_blanks text ∙ ap words_in (sym same) ∙ begins.words;
      rest = sym begins.behind ∙ ap past_word same;
      shorter = (let less = shorter_behind t place some in let most = shorter_past_blanks text in let e = ap length same in omega arith);
    })

pub next_alone : (text t : List ℕ) → t ≡ past_blanks text → 0 < length t → position is_blank t ≡ None
    → IsNextWord text t (take (length t - length t) (drop (length t) t))
next_alone text t same some found =
    let free = free_nowhere is_blank t found in
    let at : [] ≡ take (length t - length t) (drop (length t) t) = sym (nothing_left t) in
    let P : List ℕ → Type 0 = λ (behind : List ℕ). IsNextWord text t behind in
    let more : length t ≡ suc (length t - 1) = grind arith in
    subst P at (record {
      words = words_past_blanks text ∙ ap words_in (sym same) ∙ ap words_among (split_free is_blank t free) ∙ some_word t (length t - 1) [] more;
      rest = sym (past_all t free) ∙ ap past_word same;
      shorter = (let most = shorter_past_blanks text in let e = ap length same in omega arith);
    })

pub no_word : (text t : List ℕ) → t ≡ past_blanks text → length t ≡ 0 → words_in text ≡ []
no_word text [] same none = words_past_blanks text ∙ ap words_in (sym same)
no_word text (b ∷ t) same none = absurd (omega arith)
