use Rattle.ng_workers.proofs.pool.WorkableJobs.{jobs_are_workable as proved}
use Rattle.ng_workers.proofs.pool.laws.jobs_are_workable.Goals as goal

pub returns : goal.returns
returns c = proved
