-- The packets that were passed over and what is left make up what all packets are read as, and each turn leaves less.
use Rattle.std.proofs.Common.{length}
use Rattle.ng_pcap.proofs.Packets.{IsCountSoFar}
use Rattle.ng_pcap.proofs.reader.count_behind_head.Given as goal

abbrev pub decreases-loop-left : goal.decreases-loop-left
decreases-loop-left l = length l.left

abbrev pub invariant-loop-left : goal.invariant-loop-left
invariant-loop-left l = IsCountSoFar l.format l.bytes l.count l.left
