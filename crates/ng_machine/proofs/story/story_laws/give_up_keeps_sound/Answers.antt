use Rattle.ng_machine.proofs.story.SoundStories.{give_up_keeps_sound as proved}
use Rattle.ng_machine.proofs.story.story_laws.give_up_keeps_sound.Goals as goal

pub returns : goal.returns
returns c = proved
