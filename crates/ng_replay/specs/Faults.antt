-- The faults of a replay, and their statuses.
use Rattle.std.specs.Prelude.{ℕ, Option, Some, None}
use Rattle.ng_call.specs.declared.ended.Fault.{Fault}
use Rattle.ng_call.specs.declared.ended.Fault.TheVariants as of_run
use Rattle.ng_call.specs.declared.ended.Which.{Which}
use Rattle.ng_call.specs.declared.ended.Which.TheVariants as of
use Rattle.ng_replay.specs.declared.ended.Given.{Given}
use Rattle.ng_replay.specs.declared.ended.Given.TheVariants as given
use Rattle.ng_replay.specs.declared.ended.ReplayFault.{ReplayFault}
use Rattle.ng_replay.specs.declared.ended.ReplayFault.TheVariants.{Usage, Script, Capture, Journal, TooBig, ReadFault, WriteFault, No, NoMemory}

abbrev pub fault_status : ReplayFault → ℕ
fault_status Usage = 64
fault_status (ReadFault which) = 66
fault_status WriteFault = 74
fault_status (No at) = 3
fault_status NoMemory = 71
fault_status _ = 65

abbrev pub status_of : Option ReplayFault → ℕ
status_of None = 0
status_of (Some fault) = fault_status fault

-- A script and captures are read as a run reads them. What a run writes it doesn't read, so the last of these rows are of no use.
abbrev pub given_of : Which → Given
given_of of.Script = given.Script
given_of (of.Capture port) = given.Capture port
given_of _ = given.Journal

abbrev pub replay_fault : Fault → ReplayFault
replay_fault of_run.Usage = Usage
replay_fault (of_run.Script fault) = Script fault
replay_fault (of_run.Capture port why) = Capture port why
replay_fault (of_run.TooBig which) = TooBig (given_of which)
replay_fault (of_run.ReadFault which) = ReadFault (given_of which)
replay_fault (of_run.WriteFault which) = WriteFault
replay_fault of_run.NoMemory = NoMemory
