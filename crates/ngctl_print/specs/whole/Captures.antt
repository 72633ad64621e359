-- The captures that leave: a file of each port's packets, in the order in which they left by its wire (pcap-savefile(5)).
use Rattle.std.specs.Prelude.{ℕ, List}
use Rattle.ng_base.specs.declared.ids.Stamp.{Stamp}
use Rattle.ng_machine.specs.Words.{Every}
use Rattle.ng_machine.specs.World.{Port}
use Rattle.ng_pcap.specs.Writing.{written_file, IsWritable}

abbrev pub capture_of : List (Stamp × List ℕ) → List ℕ
capture_of leaving = written_file leaving

-- times below 2^32 seconds, and no packet too long
abbrev pub AreWritable : List (Stamp × List ℕ) → Type 0
AreWritable leaving = Every IsWritable leaving

-- what left by a port's wire
abbrev pub left_of : Port → List ℕ
left_of port = capture_of port.leaving
