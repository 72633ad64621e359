-- A story with an input more that is fed.
use Rattle.std.proofs.Common.{◌≡◌, ◌∙◌, ℕ, List, [], ◌∷◌, ◌++◌, length, sym, ap, subst}
use Rattle.std.specs.Prelude.{slice_get}
use Rattle.std.specs.declared.option.Option.{Option}
use Rattle.std.specs.declared.option.Option.TheVariants.{None, Some}
use Rattle.ng_base.specs.declared.event.Event.TheVariants.{Feed}
use Rattle.ng_machine.specs.declared.input.Input.{Input}
use Rattle.ng_machine.specs.Feed.{RunInput, feed_next}
use Rattle.ng_machine.specs.KnownRun.{FitsInput}
use Rattle.ng_machine.specs.LowRun.{IsModest}
use Rattle.ng_machine.specs.Run.{RunState}
use Rattle.ng_machine.specs.Words.{Every}
use Rattle.ng_queue.specs.pending.Holds.{in_world}
use Rattle.ng_machine.specs.story.SoundStory.{IsSoundStory}
use Rattle.ng_machine.specs.story.Story.{AreFitFor, Story, run_state_of, with_event, with_input, with_more, world_of}
use Rattle.ng_machine.proofs.story.MoreInputs.{get_next, same_run}
use Rattle.ng_machine.proofs.story.SoundStories.{at_more, so_far}
use Rattle.ng_queue.specs.tally.Feeding.{TagsAreLast}
use Rattle.ng_core_state.specs.declared.state.State.{State}
use Rattle.ng_core_state.specs.Stands.{Stands}
use Rattle.ng_core.specs.CoreStory.{CoreStory, setting_of, story}
use Rattle.ng_machine.proofs.Knowing.{runs_are_known}
use Rattle.ng_core.proofs.KeptPorts.{kept_count}

-- what the run is given, with the input
abbrev pub given_with : Story → Input → RunInput
given_with s input = (with_more s.setting (input ∷ [])).given

pub fed_run : (s : Story) (input : Input) → IsSoundStory s → s.closed ≡ None
    → run_state_of (with_event (with_input s input) Feed) ≡ in_world (run_state_of s) (feed_next (given_with s input) (world_of s) (Some input))
fed_run s input sound is_open =
    at_more (with_input s input) Feed
    ∙ ap (λ (a : RunState). in_world a (feed_next (given_with s input) a.world (slice_get (given_with s input).inputs a.world.fed))) (same_run s.setting (input ∷ []) s.journal (so_far s sound is_open))
    ∙ ap (λ (n : ℕ). in_world (run_state_of s) (feed_next (given_with s input) (world_of s) (slice_get (given_with s input).inputs n))) sound.fed
    ∙ ap (λ (o : Option Input). in_world (run_state_of s) (feed_next (given_with s input) (world_of s) o)) (get_next s.setting.given.inputs [] input)

every_last : {A : Type 0} (P : A → Type 0) (xs : List A) (x : A) → Every P (xs ++ x ∷ []) → P x
every_last P [] x e = e.0
every_last P (y ∷ xs) x e = every_last P xs x e.1

-- the input fits the ports that are kept
pub fits_kept : {B : Type 0} (t : State B) (s : Story) (input : Input) → Stands t (run_state_of s) → AreFitFor s (input ∷ []) → FitsInput (length t.ports.items) input
fits_kept t s input S fit =
    subst (λ (n : ℕ). FitsInput n input) (sym (kept_count t s S)) (every_last (FitsInput (length s.setting.ports)) s.setting.given.inputs input fit.fits)

-- tags are the last command's
pub tags_last : (c : CoreStory) → IsSoundStory (story c) → IsModest (setting_of c) → (story c).closed ≡ None → TagsAreLast (world_of (story c))
tags_last c sound modest is_open = λ item tag h e. (runs_are_known (setting_of c) c.journal (so_far (story c) sound is_open) modest.fits).tags item tag h e
