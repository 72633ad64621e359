-- What was kept and what is left make up what all packets are read as, and each turn leaves less.
use Rattle.std.proofs.Common.{length}
use Rattle.ng_pcap.proofs.Packets.{IsSoFar}
use Rattle.ng_pcap.proofs.reader.read_packets.Given as goal

abbrev pub decreases-loop-bytes : goal.decreases-loop-bytes
decreases-loop-bytes l = length l.left

abbrev pub invariant-loop-bytes : goal.invariant-loop-bytes
invariant-loop-bytes l = IsSoFar l.format l.bytes l.kept l.left
