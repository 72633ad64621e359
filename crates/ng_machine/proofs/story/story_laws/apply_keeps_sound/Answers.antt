use Rattle.ng_machine.proofs.story.SoundStories.{apply_keeps_sound as proved}
use Rattle.ng_machine.proofs.story.story_laws.apply_keeps_sound.Goals as goal

pub returns : goal.returns
returns c = proved
