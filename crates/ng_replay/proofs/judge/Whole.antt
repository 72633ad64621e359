-- A journal, event by event.
use Rattle.std.proofs.Common.{◌≡◌, ℕ, ◌+◌, List, [], ◌∷◌, ◌++◌, length, sym, subst}
use Rattle.ng_base.specs.declared.event.Event.{Event}
use Rattle.ng_machine.specs.declared.input.Input.{Input}
use Rattle.ng_machine.specs.Laws.{IsJournal, Setting}
use Rattle.ng_machine.specs.story.Story.{Story}
use Rattle.ng_replay.specs.judge.Following.{HasFollowed, Refuses}
use Rattle.ng_replay.specs.judge.Verdict.{IsFirstRefused}

module _ (all : Setting) (journal before rest : List Event) (event : Event) (s : Story) (left : List Input) (parts : journal ≡ before ++ event ∷ rest) (F : HasFollowed all before s left) where
  -- the next event is the first that isn't allowed
  pub first_refused : (n : ℕ) → n ≡ length before + 1 → Refuses s left event → IsFirstRefused all journal n
  first_refused n is refuses = record {
    before = before;
    event = event;
    rest = rest;
    parts = parts;
    number = is;
    allowed = F.stands.allowed;
    refused = λ J. refuses (
        subst (λ (x : Setting). IsJournal x (s.journal ++ event ∷ [])) (sym F.stands.inputs)
        (subst (λ (l : List Event). IsJournal all (l ++ event ∷ [])) (sym F.stands.events) J)
        );
  }
