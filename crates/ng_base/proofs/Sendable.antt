-- Names may go to another thread.
use denote.Param.Send.{IsSend, sendable}
use Rattle.ng_base.specs.contracts.name.Name as Name
use Rattle.std.proofs.Crossing.{crosses}
use Rattle.std.proofs.MapsCrossing.{crosses as maps}

pub name_send : IsSend Name.the_row
name_send = search (sendable, crosses, maps) depth 40
