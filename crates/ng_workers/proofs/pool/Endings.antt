-- A plain run begins where the core stands, and has gone plainly once the core is closed.
use Rattle.std.proofs.Common.{◌≡◌, Bool, true, false, List, [], ◌∷◌, ◌++◌, length, refl, sym, ap, ◌∙◌}
use Rattle.std.proofs.lemmas.List.{append-nil}
use Rattle.std.specs.declared.option.Option.TheVariants.{Some}
use Rattle.ng_base.specs.declared.event.Event.{Event}
use Rattle.ng_base.specs.declared.event.Event.TheVariants.{Stop}
use Rattle.ng_machine.specs.declared.input.Input.{Input}
use Rattle.ng_machine.specs.Run.{RunState, after}
use Rattle.ng_machine.proofs.Ordering.{after-append}
use Rattle.ng_machine.proofs.story.SoundStories.{at_more}
use Rattle.ng_machine.proofs.PlainSteps.{plainly_push}
use Rattle.ng_core.proofs.OpenStories.{open_story}
use Rattle.ng_machine.specs.story.Closing.{closed_with, stopped_if, stops}
use Rattle.ng_machine.specs.story.SoundStory.{IsSoundStory}
use Rattle.ng_machine.specs.story.Story.{Story, has_ended, run_state_of, with_event, with_more}
use Rattle.ng_workers.specs.pool.Going.{Going}
use Rattle.ng_workers.specs.pool.Plainly.{WentPlainly}
use Rattle.ng_workers.proofs.pool.Stretches.{going_at, pushed}

begun_with : (s : Story) (inputs : List Input) (journal : List Event) → s.setting.given.inputs ≡ inputs → s.journal ≡ journal
    → s ≡ record s { setting = record s.setting { given = record s.setting.given { inputs = inputs } }; journal = journal }
begun_with s inputs journal same events =
    ap (λ (l : List Input). let r : Story = record s { setting = record s.setting { given = record s.setting.given { inputs = l } } } in r) same
    ∙ ap (λ (j : List Event). let r : Story = record s { setting = record s.setting { given = record s.setting.given { inputs = inputs } }; journal = j } in r) events

-- nothing is fed or done yet
pub going_first : (s : Story) (inputs : List Input) → IsSoundStory s → has_ended s ≡ false → (run_state_of s).taken ≡ [] → Going s inputs s inputs
going_first s inputs sound running none = record {
  sound = sound;
  unclosed = open_story s running;
  fed = [];
  parts = refl;
  events = [];
  story = begun_with s (s.setting.given.inputs ++ []) (s.journal ++ []) (sym (append-nil s.setting.given.inputs)) (sym (append-nil s.journal));
  plainly = tt;
  idle = none;
}

pub went_plainly : (start : Story) (inputs : List Input) (now : Story) (left : List Input) → IsSoundStory now → Going start inputs now left → WentPlainly start inputs (closed_with now (length left))
went_plainly start inputs now left sound G = by (stops now (length left))
  where
    by : (b : Bool) → WentPlainly start inputs (record (stopped_if b now) { closed = Some (length left) })
    by true = record {
      fed = G.fed;
      left = left;
      parts = G.parts;
      events = G.events ++ Stop ∷ [];
      story = ap (λ (x : Story). let r : Story = record x { closed = Some (length left) } in r) (ap (λ (x : Story). with_event x Stop) G.story ∙ pushed start G.fed G.events Stop);
      plainly = plainly_push (with_more start.setting inputs).given (run_state_of start) G.events Stop G.plainly (ap (λ (a : RunState). a.taken) (going_at start inputs now left G sound) ∙ G.idle);
      same = after-append (with_more start.setting inputs).given (run_state_of start) G.events (Stop ∷ [])
          ∙ ap (λ (a : RunState). after (with_more start.setting inputs).given a Stop) (going_at start inputs now left G sound)
          ∙ sym (at_more now Stop);
    }
    by false = record {
      fed = G.fed;
      left = left;
      parts = G.parts;
      events = G.events;
      story = ap (λ (x : Story). let r : Story = record x { closed = Some (length left) } in r) G.story;
      plainly = G.plainly;
      same = going_at start inputs now left G sound;
    }
