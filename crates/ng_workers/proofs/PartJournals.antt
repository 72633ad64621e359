-- The journal of a run in which memory ran out is orderly over all inputs, as far as it goes.
use Rattle.std.proofs.Common.{◌≡◌, ℕ, List, ◌++◌, Bool, true, false, sym, subst}
use Rattle.std.proofs.lemmas.List.{append_assoc}
use Rattle.std.specs.declared.option.Option.{Option}
use Rattle.std.specs.declared.option.Option.TheVariants.{None, Some}
use Rattle.ng_machine.specs.declared.input.Input.{Input}
use Rattle.ng_machine.specs.Laws.{IsJournal, Setting}
use Rattle.ng_machine.specs.story.SoundStory.{IsSoundStory}
use Rattle.ng_machine.specs.story.Story.{Story, follow_if, run_state_of, with_more}
use Rattle.ng_workers.specs.Ending.{MayHaveLeft, RanIsOrderly}
use Rattle.ng_workers.specs.pool.Plainly.{PartlyIsOrderly}

follows : (b : Bool) (closed : Option ℕ) (left : List Input) → MayHaveLeft closed left → follow_if b closed left
follows false closed left may = tt
follows true None left may = tt
follows true (Some unfed) left may = may

-- a setting with these inputs
abbrev over : Setting → List Input → Setting
over setting inputs = record setting { given = record setting.given { inputs = inputs } }

orderly_over : (setting : Setting) (fed left : List Input) (s : Story) → IsSoundStory s → s.setting ≡ with_more setting fed → MayHaveLeft s.closed left → IsJournal (with_more setting (fed ++ left)) s.journal
orderly_over setting fed left s sound is may =
    subst (λ (inputs : List Input). IsJournal (over setting inputs) s.journal) (append_assoc setting.given.inputs fed left)
    (subst (λ (x : Setting). IsJournal (with_more x left) s.journal) is (sound.orderly left (follows (run_state_of s).stopped s.closed left may)))

pub partly_is_orderly : PartlyIsOrderly
partly_is_orderly old inputs new sound went =
    subst (λ (l : List Input). IsJournal (with_more old.setting l) new.journal) (sym went.parts)
    (orderly_over old.setting went.fed went.left new sound went.setting (subst (λ (closed : Option ℕ). MayHaveLeft closed went.left) (sym went.unclosed) tt))

pub ran_is_orderly : RanIsOrderly
ran_is_orderly old inputs new sound ran =
    subst (λ (l : List Input). IsJournal (with_more old.setting l) new.journal) (sym ran.parts) (orderly_over old.setting ran.fed ran.left new sound ran.setting ran.closed)
