-- One thing that a plain run does, by what the calls say of it.
use Rattle.std.proofs.Common.{◌≡◌, ℕ, ◌<◌, ◌≤◌, List, [], ◌∷◌, Bool, true, false, not, nat_lt, refl, sym, ap, ⊎_elim, subst, ◌∙◌, length, true≢false}
use Rattle.std.proofs.lemmas.Bool.{le-ltb}
use Rattle.std.specs.declared.option.Option.TheVariants.{None, Some}
use Rattle.ng_base.specs.declared.event.Event.TheVariants.{Feed}
use Rattle.ng_machine.specs.Words.{first_refusal}
use Rattle.ng_machine.specs.declared.fed.Fed.{Fed}
use Rattle.ng_machine.specs.declared.fed.Fed.TheVariants.{Spent}
use Rattle.ng_machine.specs.declared.input.Input.{Input}
use Rattle.ng_machine.specs.Refusal.{feed_refusal}
use Rattle.ng_machine.specs.World.{World}
use Rattle.ng_core.proofs.FedStories.{fed_run}
use Rattle.ng_core.proofs.OpenStories.{open_story}
use Rattle.ng_machine.specs.Run.{RunState}
use Rattle.ng_machine.specs.story.Closing.{close_refusal}
use Rattle.ng_machine.specs.story.SoundStory.{IsSoundStory}
use Rattle.ng_machine.specs.story.Story.{AreFitFor, NothingToTake, Story, has_ended, run_state_of, with_event, with_input, world_of}
use Rattle.ng_workers.specs.pool.Feeding.{IsFed, IsUnfed}
use Rattle.ng_workers.specs.pool.Going.{Going, IsServed, to_do}
use Rattle.ng_workers.proofs.pool.Fits.{fit_rest}
use Rattle.ng_workers.proofs.pool.Ends.{may_close}
use Rattle.ng_workers.proofs.pool.Idle.{nothing_left}
use Rattle.ng_workers.proofs.pool.Stretches.{fed_less, going_fed, none_taken, served_less}

-- an item is taken and applied

pub served_runs : (s t : Story) → IsServed s t → has_ended s ≡ false → has_ended t ≡ false
served_runs s t (id, served) running = ap has_ended served ∙ running

pub served_fits : (s t : Story) (left : List Input) → IsServed s t → AreFitFor s left → AreFitFor t left
served_fits s t left (id, served) fits = subst (λ (x : Story). AreFitFor x left) (sym served) fits

pub served_lessens : (s t : Story) (left : List Input) → IsSoundStory t → has_ended s ≡ false → IsServed s t → to_do t left < to_do s left
served_lessens s t left sound running served = served_less s t left sound (open_story t (served_runs s t served running)) served

pub served_idle : (s t : Story) → IsServed s t → (run_state_of s).taken ≡ [] → (run_state_of t).taken ≡ []
served_idle s t (id, served) none = ap (λ (x : Story). (run_state_of x).taken) served ∙ none_taken s id none

-- the next input is fed

first_holds : (b : Bool) (fault : Fed) (rest : List (Bool × Fed)) → b ≡ true → first_refusal ((b, fault) ∷ rest) ≡ Some fault
first_holds true fault rest e = refl
first_holds false fault rest e = absurd (true≢false (sym e))

spent_refuses : (budget : ℕ) (w : World) (input : Input) → budget ≤ w.applies → feed_refusal budget w input ≡ Some (Spent w.applies)
spent_refuses budget w input le = first_holds (not (nat_lt w.applies budget)) (Spent w.applies) _ (ap not (le-ltb w.applies budget le))

-- nothing is pending then
idle_fed : (s : Story) (input : Input) (inputs : List Input) → has_ended s ≡ false → (run_state_of s).taken ≡ [] → NothingToTake s → (IsUnfed s (input ∷ inputs) → ⊥) → (world_of s).pending ≡ []
idle_fed s input inputs running none nothing fed = ⊎_elim
    (λ (idle : (world_of s).pending ≡ []). idle)
    (λ (le : s.setting.budget ≤ (world_of s).applies). absurd (fed (Spent (world_of s).applies, spent_refuses s.setting.budget (world_of s) input le)))
    (nothing_left s running none nothing)

fed_goes : (start : Story) (inputs : List Input) (s t : Story) (left rest : List Input) → IsSoundStory s → has_ended s ≡ false → (run_state_of s).taken ≡ [] → NothingToTake s
    → IsFed s left t rest × (IsUnfed s left → ⊥) → Going start inputs s left → Going start inputs t rest
fed_goes start inputs s t [] rest sound running none nothing (fed, may) G = absurd fed
fed_goes start inputs s t (input ∷ left) rest sound running none nothing (fed, may) G =
    subst (λ (x : Story). Going start inputs x rest) (sym fed.0) (subst (Going start inputs (with_event (with_input s input) Feed)) (sym fed.1)
    (going_fed start inputs s input left sound (open_story s running) (idle_fed s input left running none nothing may) G))

pub fed_idle : (s t : Story) (left rest : List Input) → IsSoundStory s → has_ended s ≡ false → (run_state_of s).taken ≡ [] → IsFed s left t rest → (run_state_of t).taken ≡ []
fed_idle s t [] rest sound running none fed = absurd fed
fed_idle s t (input ∷ left) rest sound running none fed =
    ap (λ (x : Story). (run_state_of x).taken) fed.0 ∙ ap (λ (a : RunState). a.taken) (fed_run s input sound (open_story s running)) ∙ none

pub fed_fits : (s t : Story) (left rest : List Input) → IsFed s left t rest → AreFitFor s left → AreFitFor t rest
fed_fits s t [] rest fed fits = absurd fed
fed_fits s t (input ∷ left) rest fed fits = subst (λ (x : Story). AreFitFor x rest) (sym fed.0) (subst (AreFitFor (with_event (with_input s input) Feed)) (sym fed.1) (fit_rest s input left Feed fits))

fed_lessens : (s t : Story) (left rest : List Input) → IsSoundStory s → has_ended s ≡ false → IsFed s left t rest → to_do t rest < to_do s left
fed_lessens s t [] rest sound running fed = absurd fed
fed_lessens s t (input ∷ left) rest sound running fed =
    subst (λ (x : Story). to_do x rest < to_do s (input ∷ left)) (sym fed.0) (subst (λ (l : List Input). to_do (with_event (with_input s input) Feed) l < to_do s (input ∷ left)) (sym fed.1)
    (fed_less s input left sound (open_story s running)))

-- where nothing may be taken, the next input is fed or not

pub record Tried (s : Story) (left : List Input) (t : Story) (rest : List Input) (fed : Bool) : Type 0 where
  pub nothing : NothingToTake s
  pub does : fed ≡ true → IsFed s left t rest × (IsUnfed s left → ⊥)
  pub skips : fed ≡ false → (t ≡ s) × (rest ≡ left) × IsUnfed s left

module _ (s t : Story) (left rest : List Input) (sound : IsSoundStory s) (running : has_ended s ≡ false) (none : (run_state_of s).taken ≡ []) where
  pub tried_goes : (start : Story) (inputs : List Input) (fed : Bool) → Tried s left t rest fed → Going start inputs s left → Going start inputs t rest
  tried_goes start inputs true T G = fed_goes start inputs s t left rest sound running none T.nothing (T.does refl) G
  tried_goes start inputs false T G = let k = T.skips refl in subst (λ (x : Story). Going start inputs x rest) (sym k.0) (subst (Going start inputs s) (sym k.1) G)

  pub tried_idle : (fed : Bool) → Tried s left t rest fed → (run_state_of t).taken ≡ []
  tried_idle true T = fed_idle s t left rest sound running none (T.does refl).0
  tried_idle false T = ap (λ (x : Story). (run_state_of x).taken) (T.skips refl).0 ∙ none

  pub tried_fits : (fed : Bool) → Tried s left t rest fed → AreFitFor s left → AreFitFor t rest
  tried_fits true T fits = fed_fits s t left rest (T.does refl).0 fits
  tried_fits false T fits = let k = T.skips refl in subst (λ (x : Story). AreFitFor x rest) (sym k.0) (subst (AreFitFor s) (sym k.1) fits)

  pub tried_lessens : (fed : Bool) → Tried s left t rest fed → fed ≡ true → to_do t rest < to_do s left
  tried_lessens fed T is = fed_lessens s t left rest sound running (T.does is).0

  pub tried_ends : (fed : Bool) → Tried s left t rest fed → fed ≡ false → close_refusal t (length rest) ≡ None
  tried_ends fed T is =
      let k = T.skips is in
      subst (λ (x : Story). close_refusal x (length rest) ≡ None) (sym k.0) (subst (λ (l : List Input). close_refusal s (length l) ≡ None) (sym k.1) (may_close s left sound (open_story s running) running none T.nothing k.2))

-- the same, by what the calls say of the core that the input was fed to
pub tried : (s u t : Story) (left rest : List Input) (fed : Bool) → u ≡ s → NothingToTake s → (fed ≡ true → IsFed u left t rest × (IsUnfed u left → ⊥)) → (fed ≡ false → (t ≡ u) × (rest ≡ left) × IsUnfed u left) → Tried s left t rest fed
tried s u t left rest fed same nothing does skips = record {
  nothing = nothing;
  does = λ is. subst (λ (x : Story). IsFed x left t rest × (IsUnfed x left → ⊥)) same (does is);
  skips = λ is. subst (λ (x : Story). (t ≡ x) × (rest ≡ left) × IsUnfed x left) same (skips is);
}
