use Rattle.ng_machine.proofs.story.SoundStories.{begun_is_sound as proved}
use Rattle.ng_machine.proofs.story.story_laws.begun_is_sound.Goals as goal

pub returns : goal.returns
returns c = proved
