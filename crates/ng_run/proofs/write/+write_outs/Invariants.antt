use Rattle.std.proofs.Common.{length}
use Rattle.ng_run.proofs.write.+write_outs.Given as goal

abbrev pub decreases-write_outs : goal.decreases-write_outs
decreases-write_outs g l = length l.ports.now
