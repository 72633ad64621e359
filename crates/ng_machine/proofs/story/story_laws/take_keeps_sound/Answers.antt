use Rattle.ng_machine.proofs.story.SoundStories.{take_keeps_sound as proved}
use Rattle.ng_machine.proofs.story.story_laws.take_keeps_sound.Goals as goal

pub returns : goal.returns
returns c = proved
