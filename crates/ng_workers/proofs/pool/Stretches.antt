-- A plain run goes on: an item is taken and applied, or the next input is fed.
use Rattle.std.proofs.Common.{◌≡◌, ◌+◌, ◌<◌, List, [], ◌∷◌, ◌++◌, sym, ap, subst, arith, ◌∙◌}
use Rattle.std.proofs.lemmas.List.{append_assoc}
use Rattle.std.specs.declared.option.Option.TheVariants.{None}
use Rattle.ng_base.specs.declared.event.Event.{Event}
use Rattle.ng_base.specs.declared.event.Event.TheVariants.{Feed, Take, Apply}
use Rattle.ng_base.specs.declared.ids.ItemId.{ItemId}
use Rattle.ng_machine.specs.declared.input.Input.{Input}
use Rattle.ng_machine.specs.Laws.{IsJournal, run_state_after, start as beginning_of}
use Rattle.ng_machine.specs.Orderly.{IsTaken, MayTakeNow}
use Rattle.ng_machine.specs.Run.{RunState, after_all, beginning, without}
use Rattle.ng_machine.proofs.Kept.{applies_quietly}
use Rattle.ng_machine.proofs.Moves.{apply_applies}
use Rattle.ng_machine.proofs.Ordering.{after-append, kept_all, orderly_back, orderly_front}
use Rattle.ng_machine.proofs.PlainSteps.{plainly_push, without_one}
use Rattle.ng_machine.proofs.Quieted.{input_quietly}
use Rattle.ng_core.proofs.FedStories.{fed_run}
use Rattle.ng_machine.specs.story.SoundStory.{IsSoundStory}
use Rattle.ng_machine.specs.story.Story.{Story, run_state_of, with_event, with_input, with_more, world_of}
use Rattle.ng_machine.proofs.story.MoreInputs.{same_run}
use Rattle.ng_machine.proofs.story.SoundStories.{at_more, so_far}
use Rattle.ng_workers.specs.pool.Going.{Going, IsServed, to_do}
use Rattle.ng_workers.specs.pool.Plainly.{stretched}

-- a core with these inputs in its setting
abbrev with_inputs : Story → List Input → Story
with_inputs s inputs = record s { setting = record s.setting { given = record s.setting.given { inputs = inputs } } }

-- WHERE IT STANDS

stretch_at : (start : Story) (fed left : List Input) (events : List Event) → IsSoundStory start → start.closed ≡ None → IsSoundStory (stretched start fed events)
    → after_all (with_more start.setting (fed ++ left)).given (run_state_of start) events ≡ run_state_of (stretched start fed events)
stretch_at start fed left events sound unclosed S =
    let s = stretched start fed events in
    let all = with_more start.setting (fed ++ left) in
    let first : run_state_after all start.journal ≡ run_state_of start = same_run start.setting (fed ++ left) start.journal (so_far start sound unclosed) in
    let then : run_state_after all (start.journal ++ events) ≡ after_all all.given (run_state_after all start.journal) events = after-append all.given (beginning (beginning_of all)) start.journal events in
    let more : run_state_after (with_more s.setting left) s.journal ≡ run_state_of s = same_run s.setting left s.journal (so_far s S unclosed) in
    let given : run_state_after (with_more s.setting left) s.journal ≡ run_state_after all s.journal =
    ap (λ (inputs : List Input). run_state_after (with_inputs start inputs).setting s.journal) (append_assoc start.setting.given.inputs fed left) in
    ap (λ (at : RunState). after_all all.given at events) (sym first) ∙ sym then ∙ sym given ∙ more

pub going_at : (start : Story) (inputs : List Input) (now : Story) (left : List Input) → (G : Going start inputs now left) → IsSoundStory now
    → after_all (with_more start.setting inputs).given (run_state_of start) G.events ≡ run_state_of now
going_at start inputs now left G sound =
    ap (λ (all : List Input). after_all (with_more start.setting all).given (run_state_of start) G.events) G.parts
    ∙ stretch_at start G.fed left G.events G.sound G.unclosed (subst IsSoundStory G.story sound)
    ∙ ap run_state_of (sym G.story)

-- AN ITEM IS TAKEN AND APPLIED

pub pushed : (s : Story) (fed : List Input) (events : List Event) (event : Event) → with_event (stretched s fed events) event ≡ stretched s fed (events ++ event ∷ [])
pushed s fed events event = ap (λ (journal : List Event). let r : Story = record s { setting = with_more s.setting fed; journal = journal } in r) (append_assoc s.journal events (event ∷ []))

-- then nothing is taken
pub none_taken : (s : Story) (id : ItemId) → (run_state_of s).taken ≡ [] → (run_state_of (with_event (with_event s (Take 0 id)) (Apply id))).taken ≡ []
none_taken s id none =
    ap (λ (at : RunState). at.taken) (at_more (with_event s (Take 0 id)) (Apply id))
    ∙ ap (λ (at : RunState). without at.taken id) (at_more s (Take 0 id))
    ∙ without_one (run_state_of s).taken id 0 none

pub going_served : (start : Story) (inputs : List Input) (s t : Story) (left : List Input) → IsSoundStory s → IsServed s t → Going start inputs s left → Going start inputs t left
going_served start inputs s t left sound (id, served) G =
    let given = (with_more start.setting inputs).given in
    let at = going_at start inputs s left G sound in
    let took = plainly_push given (run_state_of start) G.events (Take 0 id) G.plainly (ap (λ (a : RunState). a.taken) at ∙ G.idle) in record {
      sound = G.sound;
      unclosed = G.unclosed;
      fed = G.fed;
      parts = G.parts;
      events = (G.events ++ Take 0 id ∷ []) ++ Apply id ∷ [];
      story = served ∙ ap (λ (x : Story). with_event (with_event x (Take 0 id)) (Apply id)) G.story ∙ ap (λ (x : Story). with_event x (Apply id)) (pushed start G.fed G.events (Take 0 id)) ∙ pushed start G.fed (G.events ++ Take 0 id ∷ []) (Apply id);
      plainly = plainly_push given (run_state_of start) (G.events ++ Take 0 id ∷ []) (Apply id) took tt;
      idle = ap (λ (x : Story). (run_state_of x).taken) served ∙ none_taken s id G.idle;
    }

record Counted (s t : Story) : Type 0 where
  within : (world_of s).applies < s.setting.budget
  more : (world_of t).applies ≡ (world_of s).applies + 1

counted : (s : Story) (id : ItemId) → IsJournal s.setting ((s.journal ++ Take 0 id ∷ []) ++ Apply id ∷ []) → Counted s (with_event (with_event s (Take 0 id)) (Apply id))
counted s id J =
    let u = with_event s (Take 0 id) in
    let b = beginning (beginning_of s.setting) in
    let K : IsJournal s.setting u.journal = orderly_front s.setting.given s.setting.budget s.setting.seats b u.journal (Apply id ∷ []) J in
    let took : MayTakeNow s.setting.budget s.setting.seats (run_state_of s) id 0 = (orderly_back s.setting.given s.setting.budget s.setting.seats b s.journal (Take 0 id ∷ []) K).0.1 in
    let out : IsTaken (run_state_of u).taken id = (orderly_back s.setting.given s.setting.budget s.setting.seats b u.journal (Apply id ∷ []) J).0.1 in
    let one = apply_applies (world_of u) (run_state_of u).taken id out (kept_all s.setting u.journal K).sound in
    let within = took.within in record {
      within = omega arith;
      more = ap (λ (at : RunState). at.world.applies) (at_more u (Apply id)) ∙ one ∙ ap (λ (at : RunState). at.world.applies + 1) (at_more s (Take 0 id));
    }

pub served_less : (s t : Story) (left : List Input) → IsSoundStory t → t.closed ≡ None → IsServed s t → to_do t left < to_do s left
served_less s t left sound unclosed (id, served) = subst (λ (x : Story). to_do x left < to_do s left) (sym served) (less (subst IsSoundStory served sound) (ap (λ (x : Story). x.closed) (sym served) ∙ unclosed))
  where
    less : IsSoundStory (with_event (with_event s (Take 0 id)) (Apply id)) → s.closed ≡ None → to_do (with_event (with_event s (Take 0 id)) (Apply id)) left < to_do s left
    less S open_ =
        let C = counted s id (so_far (with_event (with_event s (Take 0 id)) (Apply id)) S open_) in
        let lt = C.within in
        let one = C.more in
        omega arith

-- AN INPUT IS FED

fed_more : (s : Story) (fed : List Input) (events : List Event) (input : Input) → with_event (with_input (stretched s fed events) input) Feed ≡ stretched s (fed ++ input ∷ []) (events ++ Feed ∷ [])
fed_more s fed events input =
    ap (λ (inputs : List Input). record (with_inputs s inputs) { journal = (s.journal ++ events) ++ Feed ∷ [] }) (append_assoc s.setting.given.inputs fed (input ∷ []))
    ∙ ap (λ (journal : List Event). let r : Story = record s { setting = with_more s.setting (fed ++ input ∷ []); journal = journal } in r) (append_assoc s.journal events (Feed ∷ []))

pub going_fed : (start : Story) (inputs : List Input) (s : Story) (input : Input) (left : List Input) → IsSoundStory s → s.closed ≡ None → (world_of s).pending ≡ [] → Going start inputs s (input ∷ left)
    → Going start inputs (with_event (with_input s input) Feed) left
going_fed start inputs s input left sound unclosed nothing G =
    let given = (with_more start.setting inputs).given in
    let at = going_at start inputs s (input ∷ left) G sound in record {
      sound = G.sound;
      unclosed = G.unclosed;
      fed = G.fed ++ input ∷ [];
      parts = G.parts ∙ sym (append_assoc G.fed (input ∷ []) left);
      events = G.events ++ Feed ∷ [];
      story = ap (λ (x : Story). with_event (with_input x input) Feed) G.story ∙ fed_more start G.fed G.events input;
      plainly = plainly_push given (run_state_of start) G.events Feed G.plainly (ap (λ (a : RunState). a.taken) at ∙ G.idle, ap (λ (a : RunState). a.world.pending) at ∙ nothing);
      idle = ap (λ (a : RunState). a.taken) (fed_run s input sound unclosed) ∙ G.idle;
    }

-- as many items were applied
fed_applies : (s : Story) (input : Input) → IsSoundStory s → s.closed ≡ None → (world_of (with_event (with_input s input) Feed)).applies ≡ (world_of s).applies
fed_applies s input sound unclosed =
    ap (λ (a : RunState). a.world.applies) (fed_run s input sound unclosed)
    ∙ applies_quietly (input_quietly (with_more s.setting (input ∷ [])).given (record (world_of s) { fed = (world_of s).fed + 1 }) input)

pub fed_less : (s : Story) (input : Input) (left : List Input) → IsSoundStory s → s.closed ≡ None → to_do (with_event (with_input s input) Feed) left < to_do s (input ∷ left)
fed_less s input left sound unclosed = let same = fed_applies s input sound unclosed in omega arith
