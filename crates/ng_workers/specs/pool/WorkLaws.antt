-- What every sound story says of jobs.
use Rattle.std.specs.Prelude.{◌≡◌, ℕ, None}
use Rattle.ng_machine.specs.KnownRun.{AreFit}
use Rattle.ng_workers.specs.pool.Workable.{IsWorkable}
use Rattle.ng_machine.specs.story.Desks.{story_job}
use Rattle.ng_machine.specs.story.SoundStory.{IsSoundStory}
use Rattle.ng_machine.specs.story.Story.{Story}

-- what a seat works on can be worked on, over inputs that fit, while the core isn't closed
abbrev pub JobsAreWorkable : Type 0
JobsAreWorkable = (s : Story) (seat : ℕ) → IsSoundStory s → AreFit s.setting → s.closed ≡ None → IsWorkable (story_job s seat)
