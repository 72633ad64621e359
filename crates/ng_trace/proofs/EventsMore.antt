-- What is noted of an event more.
use Rattle.std.proofs.Common.{◌≡◌, ℕ, ◌+◌, length, arith, List, [], ◌∷◌, ◌++◌, refl, sym, ap, ◌∙◌}
use Rattle.ng_base.specs.declared.event.Event.{Event}
use Rattle.ng_machine.specs.declared.input.Input.{Input}
use Rattle.ng_machine.specs.Feed.{RunInput}
use Rattle.ng_machine.specs.Laws.{Setting, run_state_after, start}
use Rattle.ng_machine.specs.Run.{RunState, after, after_all, beginning, step}
use Rattle.ng_machine.specs.World.{World}
use Rattle.std.proofs.lemmas.List.{length-append}
use Rattle.ng_machine.specs.story.SoundStory.{IsSoundStory}
use Rattle.ng_machine.specs.story.Story.{Story, begun, run_state_of, world_of}
use Rattle.ng_machine.proofs.Ordering.{after-append}
use Rattle.ng_replay.specs.judge.Following.{HasFollowed, all_with}
use Rattle.ng_trace.specs.Watch.{watch, watch_all, watch_event, watched_from, watched_of}
use Rattle.ng_trace.specs.Watched.{Watched, nothing_noted}

-- an event at the end
watched_last : (given : RunInput) (at : RunState) (t : Watched) (events : List Event) (event : Event)
    → watch_all given at t (events ++ event ∷ []) ≡ watch given (after_all given at events) (watch_all given at t events) event
watched_last given at t [] event = refl
watched_last given at t (e ∷ events) event = watched_last given (after given at e) (watch given at t e) events event

pub watched_more : (all : Setting) (begin : Watched) (journal : List Event) (s t : Story) (left rest : List Input) (event : Event) (old new : Watched)
    → HasFollowed all journal s left → HasFollowed all (journal ++ event ∷ []) t rest → old ≡ watched_from all begin journal
    → new ≡ watch_event (run_state_of s) (world_of t) old event → new ≡ watched_from all begin (journal ++ event ∷ [])
watched_more all begin journal s t left rest event old new F G was is =
    let before : run_state_after all journal ≡ run_state_of s = F.stands.run in
    let now : run_state_after all (journal ++ event ∷ []) ≡ run_state_of t = G.stands.run in
    let moved : world_of t ≡ step all.given (run_state_after all journal).world event =
    ap (λ (a : RunState). a.world) (sym now ∙ after-append all.given (beginning (start all)) journal (event ∷ [])) in
    is
    ∙ ap (λ (a : RunState). watch_event a (world_of t) old event) (sym before)
    ∙ ap (λ (w : World). watch_event (run_state_after all journal) w old event) moved
    ∙ ap (λ (o : Watched). watch all.given (run_state_after all journal) o event) was
    ∙ sym (watched_last all.given (beginning (start all)) begin journal event)

-- a core that was just made has no inputs, so there are as many as are left
pub no_inputs : (s : Story) (setting : Setting) → s ≡ begun setting → IsSoundStory s → length s.setting.given.inputs ≡ 0
no_inputs s setting is sound = sym sound.fed ∙ ap (λ (x : Story). (run_state_of x).world.fed) is

pub as_many : (s : Story) (setting : Setting) (left unfed : List Input) (journal : List Event) (n : ℕ) (begin now : Watched) → s ≡ begun setting → IsSoundStory s
    → n ≡ length left → unfed ≡ left → begin ≡ nothing_noted n → now ≡ watched_from (all_with s unfed) begin journal → now ≡ watched_of (all_with s left) journal
as_many s setting left unfed journal n begin now is sound many same none noted =
    let all : length (s.setting.given.inputs ++ left) ≡ n =
    length-append s.setting.given.inputs left ∙ ap (λ (k : ℕ). k + length left) (no_inputs s setting is sound) ∙ omega (arith, many) in
    noted
    ∙ ap (λ (l : List Input). watched_from (all_with s l) begin journal) same
    ∙ ap (λ (t : Watched). watched_from (all_with s left) t journal) (none ∙ ap nothing_noted (sym all))
