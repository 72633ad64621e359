-- The packets are read one by one, and then nothing is left.
use Rattle.std.proofs.Common.{ap, ◌∙◌}
use Rattle.ng_pcap.specs.Reading.{capture_of}
use Rattle.ng_pcap.proofs.Spelled.{ends_whole}
use Rattle.ng_pcap.proofs.laws.whole_packets_are_read.Goals as goal

pub returns : goal.returns
returns c = λ bytes head entries file. ap capture_of file.whole ∙ ends_whole head entries file.are_entries
