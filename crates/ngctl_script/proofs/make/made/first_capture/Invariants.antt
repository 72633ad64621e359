use Rattle.std.proofs.Common.{◌≡◌}
use Rattle.ng_pcap.specs.Writing.{written_file}
use Rattle.ngctl_script.specs.make.Made.{made_packet}
use Rattle.std.proofs.Common.{map}
use Rattle.std.specs.List.{range_with_len}
use Rattle.ngctl_script.proofs.make.made.first_capture.Given as goal

abbrev pub invariant-loop-k : goal.invariant-loop-k
invariant-loop-k l = l.bytes.items ≡ written_file (map (made_packet l.n) (range_with_len 0 l.k))
