use Rattle.std.proofs.Common.{length}
use Rattle.ng_call.proofs.read.+read_ports.Given as goal

abbrev pub decreases-read_ports : goal.decreases-read_ports
decreases-read_ports g l = length l.ports.now
