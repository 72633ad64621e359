-- The head and the packets are those that stand in the file.
use Rattle.ng_pcap.proofs.Found.{found}
use Rattle.ng_pcap.proofs.laws.each_file_is_one_of_these.Goals as goal

pub returns : goal.returns
returns c = found
