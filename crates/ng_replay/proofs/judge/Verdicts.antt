-- A journal gets one verdict.
use Rattle.std.proofs.Common.{◌≡◌, ◌⊎◌, inl, inr, ℕ, ◌+◌, ◌<◌, List, [], ◌∷◌, ◌++◌, length, refl, sym, ap, ⊎_elim, subst, ◌∙◌}
use Rattle.std.proofs.lemmas.Bool.{cases_order}
use Rattle.std.proofs.lemmas.List.{append_assoc}
use Rattle.ng_base.specs.declared.event.Event.{Event}
use Rattle.ng_machine.specs.Laws.{Setting, IsJournal, start}
use Rattle.ng_machine.specs.Run.{beginning}
use Rattle.ng_machine.proofs.Ordering.{orderly_front}
use Rattle.ng_replay.specs.declared.judge.verdict.Verdict.TheVariants.{Yes, No}
use Rattle.ng_replay.specs.judge.Laws.{OneVerdict}
use Rattle.ng_replay.specs.judge.Verdict.{IsFirstRefused, IsVerdict}
use Rattle.ng_replay.proofs.judge.Parts.{earlier}

module _ (s : Setting) (journal : List Event) where
  -- a journal that goes beyond an event that isn't allowed isn't orderly
  beyond : (before zs : List Event) (event : Event) → (IsJournal s (before ++ event ∷ []) → ⊥) → IsJournal s ((before ++ event ∷ []) ++ zs) → ⊥
  beyond before zs event refused J = refused (orderly_front s.given s.budget s.seats (beginning (start s)) (before ++ event ∷ []) zs J)

  not_all : (at : ℕ) → IsFirstRefused s journal at → IsJournal s journal → ⊥
  not_all at F J = beyond F.before F.rest F.event F.refused (subst (IsJournal s) (F.parts ∙ sym (append_assoc F.before (F.event ∷ []) F.rest)) J)

  -- the event of one does not stand before that of the other
  not_before : (a b : ℕ) (F : IsFirstRefused s journal a) (G : IsFirstRefused s journal b) → length F.before < length G.before → ⊥
  not_before a b F G lt =
      let longer = earlier F.before G.before F.rest (G.event ∷ G.rest) F.event (sym F.parts ∙ G.parts) lt in
      beyond F.before longer.0 F.event F.refused (subst (IsJournal s) longer.1 G.allowed)

  same_place : (a b : ℕ) → IsFirstRefused s journal a → IsFirstRefused s journal b → a ≡ b
  same_place a b F G = ⊎_elim
      (λ (e : length F.before ≡ length G.before). F.number ∙ ap (λ (n : ℕ). n + 1) e ∙ sym G.number)
      (λ (c : (length F.before < length G.before) ⊎ (length G.before < length F.before)). ⊎_elim
      (λ (lt : length F.before < length G.before). absurd (not_before a b F G lt))
      (λ (lt : length G.before < length F.before). absurd (not_before b a G F lt))
      c)
      (cases_order (length F.before) (length G.before))

  same_number : (a b : ℕ) → IsVerdict s journal (No a) → IsVerdict s journal (No b) → a ≡ b
  same_number a b (inl F) (inl G) = same_place a b F G
  same_number a b (inl F) (inr D) = absurd (not_all a F D.allowed)
  same_number a b (inr C) (inl G) = absurd (not_all b G C.allowed)
  same_number a b (inr C) (inr D) = C.number ∙ sym D.number

  not_both : (at : ℕ) → IsVerdict s journal Yes → IsVerdict s journal (No at) → ⊥
  not_both at whole (inl F) = not_all at F whole.0
  not_both at whole (inr C) = C.unfinished whole.1

pub one_verdict : OneVerdict
one_verdict s journal Yes Yes A B = refl
one_verdict s journal Yes (No b) A B = absurd (not_both s journal b A B)
one_verdict s journal (No a) Yes A B = absurd (not_both s journal a B A)
one_verdict s journal (No a) (No b) A B = ap (λ (n : ℕ). No n) (same_number s journal a b A B)
