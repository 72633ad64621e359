-- What is written is a head and whole packets.
use Rattle.ng_pcap.proofs.Written.{read_back}
use Rattle.ng_pcap.proofs.laws.written_packets_are_read_back.Goals as goal

pub returns : goal.returns
returns c = read_back
