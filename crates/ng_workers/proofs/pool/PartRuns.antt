-- What stands of a plain run in which memory ran out.
use Rattle.std.proofs.Common.{◌≡◌, inl, inr, List, [], ◌∷◌, ◌++◌, Result, Ok, Err, OnErr, sym, ap, subst, ◌∙◌}
use Rattle.ng_base.specs.declared.event.Event.TheVariants.{Take}
use Rattle.ng_base.specs.declared.ids.ItemId.{ItemId}
use Rattle.ng_machine.specs.declared.input.Input.{Input}
use Rattle.ng_machine.specs.Run.{RunState}
use Rattle.ng_machine.proofs.PlainSteps.{plainly_push}
use Rattle.ng_machine.specs.story.SoundStory.{IsSoundStory}
use Rattle.ng_machine.specs.story.Story.{Story, given_up_by, run_state_of, with_event, with_more}
use Rattle.ng_workers.specs.pool.Going.{Going, IsHalfServed}
use Rattle.ng_workers.specs.pool.Plainly.{WentPartly}
use Rattle.ng_workers.proofs.pool.Stretches.{going_at, pushed}

so_far : (start : Story) (inputs : List Input) (now : Story) (left : List Input) → Going start inputs now left → WentPartly start inputs now
so_far start inputs now left G = record {
  fed = G.fed;
  left = left;
  parts = G.parts;
  setting = ap (λ (x : Story). x.setting) G.story;
  events = G.events;
  journal = ap (λ (x : Story). x.journal) G.story;
  plainly = G.plainly;
  unclosed = ap (λ (x : Story). x.closed) G.story ∙ G.unclosed;
}

-- an item was taken and not applied
so_far_taken : (start : Story) (inputs : List Input) (now : Story) (left : List Input) (id : ItemId) → IsSoundStory now → Going start inputs now left → WentPartly start inputs (with_event now (Take 0 id))
so_far_taken start inputs now left id sound G =
    let given = (with_more start.setting inputs).given in
    let at = going_at start inputs now left G sound in record {
      fed = G.fed;
      left = left;
      parts = G.parts;
      setting = ap (λ (x : Story). x.setting) G.story;
      events = G.events ++ Take 0 id ∷ [];
      journal = ap (λ (x : Story). x.journal) (ap (λ (x : Story). with_event x (Take 0 id)) G.story ∙ pushed start G.fed G.events (Take 0 id));
      plainly = plainly_push given (run_state_of start) G.events (Take 0 id) G.plainly (ap (λ (a : RunState). a.taken) at ∙ G.idle);
      unclosed = ap (λ (x : Story). x.closed) G.story ∙ G.unclosed;
    }

-- memory ran out in one thing that it did
pub halts : (start : Story) (inputs : List Input) (s t : Story) (left : List Input) → IsSoundStory s → IsHalfServed s t → Going start inputs s left → WentPartly start inputs t
halts start inputs s t left sound (inl same) G = subst (WentPartly start inputs) (sym same) (so_far start inputs s left G)
halts start inputs s t left sound (inr (id, took)) G = subst (WentPartly start inputs) (sym took) (so_far_taken start inputs s left id sound G)

-- then a seat gives up
pub gives_up : (start : Story) (inputs : List Input) (s t : Story) → t ≡ given_up_by s 0 → WentPartly start inputs s → WentPartly start inputs t
gives_up start inputs s t is W = subst (WentPartly start inputs) (sym is) (record {
  fed = W.fed;
  left = W.left;
  parts = W.parts;
  setting = W.setting;
  events = W.events;
  journal = W.journal;
  plainly = W.plainly;
  unclosed = W.unclosed;
})

-- what is so where a call failed
pub on_err : {T E P : Type 0} (r : Result T E) → P → OnErr r P
on_err (Ok value) p = tt
on_err (Err error) p = p
