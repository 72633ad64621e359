-- The packets are read one by one, and then a part of one is left.
use Rattle.std.proofs.Common.{ap, ◌∙◌}
use Rattle.ng_pcap.specs.Reading.{capture_of}
use Rattle.ng_pcap.proofs.Spelled.{ends_cut}
use Rattle.ng_pcap.proofs.laws.cut_packet_is_left_out.Goals as goal

pub returns : goal.returns
returns c = λ bytes head entries rest file cut. ap capture_of file.whole ∙ ends_cut head entries rest file.are_entries cut
