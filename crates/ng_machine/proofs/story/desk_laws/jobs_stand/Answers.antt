use Rattle.ng_machine.proofs.story.AtWork.{jobs_stand as proved}
use Rattle.ng_machine.proofs.story.desk_laws.jobs_stand.Goals as goal

pub returns : goal.returns
returns c = proved
