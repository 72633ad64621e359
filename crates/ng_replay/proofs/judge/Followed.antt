-- A core that follows an event more, and what it has followed so far.
use Rattle.std.proofs.Common.{◌≡◌, ℕ, Bool, true, false, List, [], ◌∷◌, ◌++◌, length, replicate, zero, suc, refl, sym, ap, ◌∙◌, subst}
use Rattle.std.specs.List.{list_any}
use Rattle.std.proofs.lemmas.List.{append_assoc}
use Rattle.std.specs.declared.option.Option.TheVariants.{Some}
use Rattle.ng_base.specs.declared.event.Event.{Event}
use Rattle.ng_base.specs.declared.event.Event.TheVariants.{Feed, Stop}
use Rattle.ng_base.specs.declared.ids.ItemId.{ItemId}
use Rattle.ng_machine.specs.declared.input.Input.{Input}
use Rattle.ng_machine.specs.Laws.{Setting, start}
use Rattle.ng_machine.specs.Run.{RunState, after, beginning}
use Rattle.ng_machine.proofs.Ordering.{after-append}
use Rattle.ng_workers.specs.pool.Feeding.{IsFed}
use Rattle.ng_core.proofs.OpenStories.{open_story}
use Rattle.ng_machine.specs.story.SoundStory.{IsSoundStory}
use Rattle.ng_machine.specs.story.Story.{MayFollow, Story, begun, follow_if, has_ended, run_state_of, with_event, with_input}
use Rattle.ng_machine.proofs.story.MoreInputs.{same_run}
use Rattle.ng_machine.proofs.story.SoundStories.{at_more, so_far}
use Rattle.ng_replay.specs.judge.Following.{Follows, Goes, HasFollowed, all_with}

-- while nothing stopped, any inputs may follow
may_follow : (s : Story) (more : List Input) → (run_state_of s).stopped ≡ false → MayFollow s more
may_follow s more going = subst (λ (b : Bool). follow_if b s.closed more) (sym going) tt

-- a core that runs, over all its inputs
module _ (s : Story) (left : List Input) (sound : IsSoundStory s) (running : has_ended s ≡ false) where
  going : (run_state_of s).stopped ≡ false
  going = sound.going (open_story s running)

  pub open_goes : Goes s left
  open_goes = record {
    stands = record {
      inputs = refl;
      events = refl;
      allowed = sound.orderly left (may_follow s left going);
      run = same_run s.setting left s.journal (so_far s sound (open_story s running));
    };
    ended = running ∙ sym going;
  }

-- AN EVENT MORE

-- a take, a back or an apply
pub follows_event : (s t : Story) (left : List Input) (event : Event) → t ≡ with_event s event → IsSoundStory t → has_ended s ≡ false → Follows s left event t left
follows_event s t left event is sound running =
    subst (λ (x : Story). Follows s left event x left) (sym is) (open_goes (with_event s event) left (subst IsSoundStory is sound) running)

-- a feed
same_inputs : (s : Story) (input : Input) (rest : List Input) → all_with (with_event (with_input s input) Feed) rest ≡ all_with s (input ∷ rest)
same_inputs s input rest =
    ap (λ (inputs : List Input). let r : Setting = record s.setting { given = record s.setting.given { inputs = inputs } } in r) (append_assoc s.setting.given.inputs (input ∷ []) rest)

fed_follows : (s : Story) (input : Input) (rest : List Input) → IsSoundStory (with_event (with_input s input) Feed) → has_ended s ≡ false → Follows s (input ∷ rest) Feed (with_event (with_input s input) Feed) rest
fed_follows s input rest sound running =
    let u : Story = with_event (with_input s input) Feed in
    subst (λ (all : Setting). HasFollowed all (s.journal ++ Feed ∷ []) u rest) (same_inputs s input rest) (open_goes u rest sound running)

pub follows_feed : (s t : Story) (left rest : List Input) → IsFed s left t rest → IsSoundStory t → has_ended s ≡ false → Follows s left Feed t rest
follows_feed s t [] rest fed sound running = absurd fed
follows_feed s t (input ∷ left) rest fed sound running =
    subst (λ (x : Story). Follows s (input ∷ left) Feed x rest) (sym fed.0)
    (subst (Follows s (input ∷ left) Feed (with_event (with_input s input) Feed)) (sym fed.1) (fed_follows s input left (subst IsSoundStory fed.0 sound) running))

-- a stop

abbrev pub stopped_with : Story → ℕ → Story
stopped_with s unfed = record (with_event s Stop) { closed = Some unfed }

is_stopped : (s : Story) → (run_state_of (with_event s Stop)).stopped ≡ true
is_stopped s = ap (λ (at : RunState). at.stopped) (at_more s Stop)

pub follows_stop : (s t : Story) (left : List Input) → t ≡ stopped_with s (length left) → IsSoundStory t → Goes s left → Follows s left Stop t left
follows_stop s t left is sound G = subst (λ (x : Story). Follows s left Stop x left) (sym is) (record {
  stands = record {
    inputs = refl;
    events = refl;
    allowed = (subst IsSoundStory is sound).orderly left (subst (λ (b : Bool). follow_if b (Some (length left)) left) (sym (is_stopped s)) refl);
    run = after-append (all_with s left).given (beginning (start s.setting)) s.journal (Stop ∷ [])
        ∙ ap (λ (at : RunState). after (all_with s left).given at Stop) G.stands.run
        ∙ sym (at_more s Stop);
  };
  ended = sym (is_stopped s);
})

-- WHAT WAS FOLLOWED SO FAR

-- it has followed its own journal
pub goes_so_far : (all : Setting) (journal : List Event) (s : Story) (left : List Input) → HasFollowed all journal s left → Goes s left
goes_so_far all journal s left F =
    subst (λ (j : List Event). HasFollowed (all_with s left) j s left) (sym F.stands.events) (subst (λ (x : Setting). HasFollowed x journal s left) (sym F.stands.inputs) F)

pub followed_more : (all : Setting) (journal : List Event) (s t : Story) (left rest : List Input) (event : Event) → HasFollowed all journal s left → Follows s left event t rest
    → HasFollowed all (journal ++ event ∷ []) t rest
followed_more all journal s t left rest event F more =
    subst (λ (j : List Event). HasFollowed all (j ++ event ∷ []) t rest) F.stands.events (subst (λ (x : Setting). HasFollowed x (s.journal ++ event ∷ []) t rest) F.stands.inputs more)

-- before any event

nobody : (n : ℕ) → list_any (λ (b : Bool). b) (replicate n false) ≡ false
nobody zero = refl
nobody (suc n) = nobody n

pub begun_runs : (s : Story) (setting : Setting) → s ≡ begun setting → has_ended s ≡ false
begun_runs s setting is = ap has_ended is ∙ nobody setting.seats

pub begun_idle : (s : Story) (setting : Setting) → s ≡ begun setting → (run_state_of s).taken ≡ []
begun_idle s setting is = ap (λ (x : Story). (run_state_of x).taken) is

pub begun_follows : (s : Story) (setting : Setting) (left : List Input) → s ≡ begun setting → HasFollowed (all_with s left) [] s left
begun_follows s setting left is = subst (λ (x : Story). HasFollowed (all_with x left) [] x left) (sym is) (record {
  stands = record { inputs = refl; events = refl; allowed = tt; run = refl };
  ended = nobody setting.seats;
})

-- the same of an item that the caller names
pub follows_named : (of : ItemId → Event) (s t : Story) (left : List Input) (id name : ItemId) → id ≡ name → t ≡ with_event s (of id) → IsSoundStory t → has_ended s ≡ false → Follows s left (of name) t left
follows_named of s t left id name same is sound running = follows_event s t left (of name) (is ∙ ap (λ (i : ItemId). with_event s (of i)) same) sound running
