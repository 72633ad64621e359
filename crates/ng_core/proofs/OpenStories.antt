-- A core that hasn't ended: what is so of its run, and its story with one event more.
use Rattle.std.proofs.Common.{◌≡◌, ℕ, [], ◌∷◌, ◌++◌, false, is_some, refl, sym, subst, true≢false}
use Rattle.std.proofs.lemmas.Bool.{or_parts}
use Rattle.std.specs.declared.option.Option.{Option}
use Rattle.std.specs.declared.option.Option.TheVariants.{None, Some}
use Rattle.ng_base.specs.declared.event.Event.{Event}
use Rattle.ng_machine.specs.LowRun.{IsLow, IsModest}
use Rattle.ng_machine.specs.Run.{after}
use Rattle.ng_machine.proofs.Lowering.{runs_are_low}
use Rattle.ng_machine.specs.story.SoundStory.{IsSoundStory}
use Rattle.ng_machine.specs.story.Story.{Story, has_ended, has_failed, run_state_of, with_event, world_of}
use Rattle.ng_machine.proofs.story.SoundStories.{at_more, so_far}
use Rattle.ng_core_state.specs.declared.state.State.{State}
use Rattle.ng_core_state.specs.Stands.{Stands}
use Rattle.ng_core.specs.CoreStory.{CoreStory, setting_of, story}

none_closed : (o : Option ℕ) → is_some o ≡ false → o ≡ None
none_closed None e = refl
none_closed (Some n) e = absurd (true≢false e)

-- it isn't closed
pub open_story : (s : Story) → has_ended s ≡ false → s.closed ≡ None
open_story s runs = none_closed s.closed (or_parts (is_some s.closed) (has_failed s) runs).0

pub low_story : (c : CoreStory) → IsSoundStory (story c) → IsModest (setting_of c) → (story c).closed ≡ None → IsLow (run_state_of (story c)).world
low_story c sound modest is_open = runs_are_low (setting_of c) c.journal (so_far (story c) sound is_open) modest

-- the same of any story
pub low_sound : (s : Story) → IsSoundStory s → IsModest s.setting → s.closed ≡ None → IsLow (world_of s)
low_sound s sound modest is_open = runs_are_low s.setting s.journal (so_far s sound is_open) modest

-- the story with one event more
abbrev pub pushed : CoreStory → Event → CoreStory
pushed c e = record c { journal = c.journal ++ e ∷ [] }

-- what stands for the run after an event stands for the run of the story with it
pub stands_pushed : {B : Type 0} (t : State B) (s : Story) (e : Event) → Stands t (after s.setting.given (run_state_of s) e) → Stands t (run_state_of (with_event s e))
stands_pushed t s e S = subst (Stands t) (sym (at_more s e)) S
