-- The packets are read one by one, and then one is left that is too long.
use Rattle.std.proofs.Common.{ap, ◌∙◌}
use Rattle.ng_pcap.specs.Reading.{capture_of}
use Rattle.ng_pcap.proofs.Spelled.{ends_too_long}
use Rattle.ng_pcap.proofs.laws.long_packet_is_refused.Goals as goal

pub returns : goal.returns
returns c = λ bytes head entries rest file long. ap capture_of file.whole ∙ ends_too_long head entries rest file.are_entries long
