-- No step of the definition says so.
use Rattle.ng_pcap.proofs.Whole.{capture_takes_none}
use Rattle.ng_pcap.proofs.laws.no_file_is_out_of_memory.Goals as goal

pub returns : goal.returns
returns c = capture_takes_none
