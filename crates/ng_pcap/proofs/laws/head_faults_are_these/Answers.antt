-- Each fault is read where it is, and is there where it is read.
use Rattle.ng_pcap.proofs.Heads.{head_faults}
use Rattle.ng_pcap.proofs.laws.head_faults_are_these.Goals as goal

pub returns : goal.returns
returns c = head_faults
