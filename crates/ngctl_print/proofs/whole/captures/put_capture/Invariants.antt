use Rattle.std.proofs.Common.{◌≡◌, ◌++◌, take}
use Rattle.std.specs.List.{flat_map}
use Rattle.ng_pcap.specs.Writing.{written_head, written_packet}
use Rattle.ngctl_print.proofs.whole.captures.put_capture.Given as goal

abbrev pub invariant-loop-stamp : goal.invariant-loop-stamp
invariant-loop-stamp l = l.out.items ≡ l.fn.out.items ++ (written_head ++ flat_map (λ packet. written_packet packet.0 packet.1) (take l.stamp-index l.leaving))
