-- A program may go to another thread, and be shared among them.
use denote.Param.Send.{IsSend, IsSync, sendable}
use Rattle.ng_bpf_vm.specs.contracts.program.Program as Program
use Rattle.std.proofs.Crossing.{crosses}
use Rattle.std.proofs.MapsCrossing.{crosses as maps}

pub program_field_send : IsSend (Program.the_field).row
program_field_send = search (sendable, crosses, maps) depth 90 fits 300000

pub program_field_sync : IsSync (Program.the_field).row
program_field_sync = search (sendable, crosses, maps) depth 90 fits 300000
