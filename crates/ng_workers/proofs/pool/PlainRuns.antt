-- A plain run from the beginning is the plain journal of all inputs, which is whole.
use Rattle.std.proofs.Common.{◌≡◌, ℕ, List, [], ◌∷◌, ◌++◌, length, false, true, refl, sym, ap, subst, arith, ◌∙◌, Bool}
use Rattle.std.proofs.lemmas.List.{append_assoc, append-nil}
use Rattle.std.specs.declared.option.Option.TheVariants.{Some}
use Rattle.ng_base.specs.declared.event.Event.{Event}
use Rattle.ng_machine.specs.declared.input.Input.{Input}
use Rattle.ng_machine.specs.Laws.{IsJournal, Setting, run_state_after, start as beginning_of}
use Rattle.ng_machine.specs.Orderly.{IsOrderly, IsQuiet, IsWhole}
use Rattle.ng_machine.specs.Plain.{IsPlain}
use Rattle.ng_machine.specs.Feed.{RunInput}
use Rattle.ng_machine.specs.Run.{RunState, after, after_all, beginning, stopped_after}
use Rattle.ng_machine.specs.story.SoundStory.{IsSoundStory}
use Rattle.ng_machine.specs.story.Story.{Story, begun, follow_if, run_state_of, with_more}
use Rattle.ng_machine.proofs.story.MoreInputs.{same_run}
use Rattle.ng_workers.specs.pool.Plainly.{PlainlyIsPlain, PlainlyIsWhole, stretched}

follows : (b : Bool) (more : List Input) → follow_if b (Some (length more)) more
follows true more = refl
follows false more = tt

no_inputs : (inputs : List Input) → length inputs ≡ 0 → inputs ≡ []
no_inputs [] e = refl
no_inputs (x ∷ xs) e = absurd (omega arith)

-- the story where it ended
abbrev ended : Setting → List Input → List Input → List Event → Story
ended setting fed left events = record (stretched (begun setting) fed events) { closed = Some (length left) }

-- whether it stopped is told by the events alone
stopped_same : (given more : RunInput) (a b : RunState) (j : List Event) → a.stopped ≡ b.stopped → (after_all given a j).stopped ≡ (after_all more b j).stopped
stopped_same given more a b [] e = e
stopped_same given more a b (x ∷ xs) e = stopped_same given more (after given a x) (after more b x) xs (ap (λ (stopped : Bool). stopped_after stopped x) e)

module _ (setting : Setting) (fed left : List Input) (events : List Event) (sound : IsSoundStory (ended setting fed left events)) where
  abbrev s : Story
  s = ended setting fed left events

  abbrev all : Setting
  all = with_more setting (fed ++ left)

  -- a setting with these inputs
  abbrev over : List Input → Setting
  over inputs = record setting { given = record setting.given { inputs = inputs } }

  orderly : IsJournal all events
  orderly = subst (λ (inputs : List Input). IsJournal (over inputs) events) (append_assoc setting.given.inputs fed left) (sound.orderly left (follows (run_state_of s).stopped left))

  -- a run that did not stop is the same over the inputs that were fed, and those are all
  quiet : (run_state_after all events).stopped ≡ false → IsQuiet all.given (run_state_after all events).world
  quiet on =
      let off : (run_state_of s).stopped ≡ false = stopped_same s.setting.given all.given (beginning (beginning_of setting)) (beginning (beginning_of setting)) events refl ∙ on in
      let J : IsJournal s.setting events = subst (λ (inputs : List Input). IsJournal (over inputs) events) (append-nil (setting.given.inputs ++ fed)) (sound.orderly [] (subst (λ (b : Bool). follow_if b (Some (length left)) []) (sym off) tt)) in
      let same : run_state_after all events ≡ run_state_of s = ap (λ (inputs : List Input). run_state_after (over inputs) events) (sym (append_assoc setting.given.inputs fed left)) ∙ same_run s.setting left events J in
      let none : left ≡ [] = no_inputs left (sound.closed.1 off) in record {
        idle = ap (λ (at : RunState). at.world.pending) same ∙ sound.closed.0;
        fed = ap (λ (at : RunState). at.world.fed) same ∙ sound.fed ∙ ap (λ (inputs : List Input). length (setting.given.inputs ++ inputs)) (sym (append-nil fed) ∙ ap (λ (inputs : List Input). fed ++ inputs) (sym none));
      }

pub plainly_is_plain : PlainlyIsPlain
plainly_is_plain setting inputs new one sound went =
    let S = subst IsSoundStory went.story sound in
    subst (λ (journal : List Event). IsPlain (beginning_of setting) (with_more setting inputs).given setting.budget journal) (ap (λ (x : Story). x.journal) (sym went.story))
    (record {
      orderly = subst (λ (n : ℕ). IsOrderly (beginning_of setting) (with_more setting inputs).given setting.budget n went.events) one
          (subst (λ (l : List Input). IsJournal (with_more setting l) went.events) (sym went.parts) (orderly setting went.fed went.left went.events S));
      plainly = went.plainly;
      whole = subst (λ (l : List Input). IsWhole (beginning_of setting) (with_more setting l).given went.events) (sym went.parts) (record { quiet = quiet setting went.fed went.left went.events S });
    })

pub plainly_is_whole : PlainlyIsWhole
plainly_is_whole setting inputs new sound went =
    let S = subst IsSoundStory went.story sound in
    let journal : went.events ≡ new.journal = ap (λ (x : Story). x.journal) (sym went.story) in (
      subst (IsJournal (with_more setting inputs)) journal (subst (λ (l : List Input). IsJournal (with_more setting l) went.events) (sym went.parts) (orderly setting went.fed went.left went.events S)),
      subst (IsWhole (beginning_of setting) (with_more setting inputs).given) journal
          (subst (λ (l : List Input). IsWhole (beginning_of setting) (with_more setting l).given went.events) (sym went.parts) (record { quiet = quiet setting went.fed went.left went.events S })),
      ap (λ (j : List Event). run_state_after (with_more setting inputs) j) (sym journal) ∙ went.same,
    )
