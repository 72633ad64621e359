-- The laws of answers.
use Rattle.std.proofs.Common.{ℕ, List, [], ◌∷◌, ◌++◌, sym, subst, arith, inl, inr}
use Rattle.ng_base.specs.declared.event.Event.{Event}
use Rattle.ng_machine.specs.Words.{Has, Every}
use Rattle.ng_machine.specs.Feed.{RunInput}
use Rattle.ng_machine.specs.Run.{RunState, after, beginning}
use Rattle.ng_machine.specs.Orderly.{OrderlyFrom}
use Rattle.ng_machine.specs.Laws.{Setting, IsJournal, start, world_after}
use Rattle.ng_machine.specs.LowRun.{IsModest}
use Rattle.ng_machine.proofs.Lowering.{runs_are_low}
use Rattle.ng_machine.proofs.Ordering.{kept_start}
use Rattle.ng_laws.specs.answers.Answers.{HasNames, AnswersWereAsked, HelpsWereFed, AnswersHaveRows}
use Rattle.ng_laws.proofs.answers.Owing.{BodyOwes, ToldOwes}
use Rattle.ng_laws.proofs.answers.Worlds.{InShapeAt, shape_run, start_shaped}

-- each beginning of an orderly journal is one
orderly_begins : (given : RunInput) (budget seats : ℕ) (at : RunState) (more rest : List Event)
    → OrderlyFrom given budget seats at (more ++ rest) → OrderlyFrom given budget seats at more
orderly_begins given budget seats at [] rest o = tt
orderly_begins given budget seats at (e ∷ more) rest o = (o.0, orderly_begins given budget seats (after given at e) more rest o.1)

has_all : {A : Type 0} (P : A → Type 0) (x : A) (xs : List A) → Every P xs → Has x xs → P x
has_all P x [] all h = absurd h
has_all P x (y ∷ ys) all (inl e) = subst P (sym e) all.0
has_all P x (y ∷ ys) all (inr h) = has_all P x ys all.1 h

shape_world : (Presumed : Type 0) (s : Setting) (journal : List Event) → IsJournal s journal → (Presumed → IsModest s)
    → (Presumed → HasNames s) → InShapeAt Presumed s.given (world_after s journal)
shape_world Presumed s journal o modest names =
    shape_run Presumed s.given s.budget s.seats (beginning (start s)) journal
    (λ presumed. let few = (modest presumed).budget in omega arith)
    (λ more rest is presumed. let low = (runs_are_low s more
    (orderly_begins s.given s.budget s.seats (beginning (start s)) more rest (subst (IsJournal s) is o))
    (modest presumed)).nodes in omega arith)
    o (kept_start s) (start_shaped Presumed s names)

-- where nothing is presumed of the run
plain_world : (s : Setting) (journal : List Event) → IsJournal s journal → InShapeAt ⊥ s.given (world_after s journal)
plain_world s journal o = shape_world ⊥ s journal o (λ presumed. absurd presumed) (λ presumed. absurd presumed)

pub helps_were_fed : HelpsWereFed
helps_were_fed s journal command o h = let w = world_after s journal in
    has_all (ToldOwes ⊥ s.given w.fed) _ w.told (plain_world s journal o).told h

pub answers_were_asked : AnswersWereAsked
answers_were_asked s journal o =
    let w = world_after s journal in
    let shape = plain_world s journal o in record {
      pending = λ item msg h e is. let owes = subst (BodyOwes ⊥ s.given w.fed item.tag) e (shape.waits item h) in
          (owes.command, owes.is, owes.asked);
      told = λ command from cookie number bytes h. (has_all (ToldOwes ⊥ s.given w.fed) _ w.told shape.told h).0;
    }

pub answers_have_rows : AnswersHaveRows
answers_have_rows s journal o modest names =
    let w = world_after s journal in
    let Presumed = IsModest s × HasNames s in
    let presumed : Presumed = (modest, names) in
    let shape = shape_world Presumed s journal o (λ k. k.0) (λ k. k.1) in record {
      pending = λ item msg h e is. let owes = subst (BodyOwes Presumed s.given w.fed item.tag) e (shape.waits item h) in
          (owes.command, owes.is, record { asked = owes.asked; row = owes.row is presumed });
      told = λ command from cookie number bytes h. let owes =
          has_all (ToldOwes Presumed s.given w.fed) _ w.told shape.told h in record { asked = owes.0; row = owes.1 presumed };
    }
