-- Inputs that fit: the first of them, and those behind it.
use Rattle.std.proofs.Common.{◌≤◌, Bool, List, [], ◌∷◌, ◌++◌, length, sym, subst, arith}
use Rattle.std.proofs.lemmas.List.{append_assoc}
use Rattle.ng_base.specs.declared.event.Event.{Event}
use Rattle.ng_machine.specs.declared.input.Input.{Input}
use Rattle.ng_machine.specs.KnownRun.{FitsInput}
use Rattle.ng_machine.specs.LowRun.{IsModest, most_commands}
use Rattle.ng_machine.specs.Refusal.{is_command}
use Rattle.ng_machine.specs.Words.{Every, times}
use Rattle.ng_machine.specs.story.Story.{AreFitFor, Story, with_event, with_input}

every_front : {A : Type 0} (P : A → Type 0) (xs ys : List A) → Every P (xs ++ ys) → Every P xs
every_front P [] ys all = tt
every_front P (x ∷ xs) ys all = (all.0, every_front P xs ys all.1)

times_front : {A : Type 0} (test : A → Bool) (xs ys : List A) → times test xs ≤ times test (xs ++ ys)
times_front test [] ys = omega arith
times_front test (x ∷ xs) ys = let rest = times_front test xs ys in omega arith

modest_front : (s : Story) (xs ys : List Input) → AreFitFor s (xs ++ ys) → AreFitFor s xs
modest_front s xs ys M =
    let all = sym (append_assoc s.setting.given.inputs xs ys) in record {
      budget = M.budget;
      ports = M.ports;
      commands = let few = subst (λ (inputs : List Input). times is_command inputs ≤ most_commands) all M.commands in
          let fewer = times_front is_command (s.setting.given.inputs ++ xs) ys in
          omega arith;
      fits = every_front (FitsInput (length s.setting.ports)) (s.setting.given.inputs ++ xs) ys (subst (Every (FitsInput (length s.setting.ports))) all M.fits);
    }

-- the first alone
pub fit_first : (s : Story) (input : Input) (rest : List Input) → AreFitFor s (input ∷ rest) → AreFitFor s (input ∷ [])
fit_first s input rest M = modest_front s (input ∷ []) rest M

-- those behind it, once it is fed
pub fit_rest : (s : Story) (input : Input) (rest : List Input) (event : Event) → AreFitFor s (input ∷ rest) → AreFitFor (with_event (with_input s input) event) rest
fit_rest s input rest event M = subst (λ (inputs : List Input). IsModest (record s.setting { given = record s.setting.given { inputs = inputs } })) (sym (append_assoc s.setting.given.inputs (input ∷ []) rest)) M
