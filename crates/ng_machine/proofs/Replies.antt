-- Replies to messages: where a number reads, or the reply is a refusal, what the kind keeps stays.
use Rattle.std.proofs.Common.{◌≡◌, if◌then◌else◌, ℕ, Bool, true, false, ◌==◌, List, [], ◌∷◌, length, refl, sym, ◌∙◌, subst, true≢false}
use Rattle.std.specs.declared.option.Option.{Option}
use Rattle.std.specs.declared.option.Option.TheVariants.{None, Some}
use Rattle.std.proofs.lemmas.Bool.{eqb-true}
use Rattle.ng_base.specs.declared.errno.Errno.{Errno}
use Rattle.ng_machine.specs.Words.{Every}
use Rattle.ng_message.specs.Numbers.{is_reader_number}
use Rattle.ng_machine.specs.Outcome.{Reply, with_length, unless_refused, by_number, invalid, refuses}

-- P holds of the reply of a table, if it holds of a refusal and, for each row, of its reply where its number is the message's
pub by_number_all : {S : Type 0} (P : Reply S → Type 0) (s : S) (number : ℕ) (rows : List (ℕ × Reply S)) → P (invalid s)
    → Every (λ (row : ℕ × Reply S). row.0 ≡ number → P row.1) rows → P (by_number s number rows)
by_number_all P s number [] h e = h
by_number_all P s number (row ∷ rows) h e = by (number == row.0) refl (by_number_all P s number rows h e.1)
  where
    by : (b : Bool) → (number == row.0) ≡ b → P (by_number s number rows) → P (if b then row.1 else by_number s number rows)
    by true is rest = e.0 (sym (eqb-true number row.0 is))
    by false is rest = rest

pub with_length_all : {S : Type 0} (P : Reply S → Type 0) (s : S) (n : ℕ) (args : List ℕ) (reply : Reply S) → P (invalid s) → P reply → P (with_length s n args reply)
with_length_all P s n args reply h r = by (length args == n)
  where
    by : (b : Bool) → P (if b then reply else invalid s)
    by true = r
    by false = h

pub unless_all : {S : Type 0} (P : Reply S → Type 0) (s : S) (e : Option Errno) (reply : Reply S) → ((errno : Errno) → P (refuses s errno)) → P reply → P (unless_refused s e reply)
unless_all P s None reply h r = r
unless_all P s (Some errno) reply h r = h errno

-- a number that doesn't read is none that does
pub reads_not : {X : Type 0} (a number : ℕ) → is_reader_number a ≡ false → is_reader_number number ≡ true → a ≡ number → X
reads_not a number writes reads is = absurd (true≢false (sym (subst (λ (n : ℕ). is_reader_number n ≡ true) (sym is) reads) ∙ writes))
