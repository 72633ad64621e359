-- A sound story's journal keeps the laws.
use Rattle.ng_machine.proofs.Lawful.{keeps_laws}
use Rattle.ng_machine.specs.story.SoundStory.{IsSoundStory}
use Rattle.ng_machine.specs.story.Story.{Story, with_more}
use Rattle.ng_core.specs.Lawful.{IsLawful}

pub is_lawful : (s : Story) → IsSoundStory s → IsLawful s
is_lawful s sound more follows = keeps_laws (with_more s.setting more) s.journal (sound.orderly more follows)
