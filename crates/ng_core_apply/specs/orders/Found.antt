-- Where an address leads, or why it leads nowhere.
use Rattle.std.specs.Prelude.{Option, Some, None, Result, Ok, Err}
use Rattle.ng_base.specs.declared.errno.Errno.{Errno}
use Rattle.ng_base.specs.declared.ids.NodeId.{NodeId}
use Rattle.ng_machine.specs.Errors.{einval, enoent}
use Rattle.ng_machine.specs.Walk.{walk}
use Rattle.ng_machine.specs.World.{World}
use Rattle.ng_path.specs.Address.{Address}

abbrev pub or_nowhere : Option NodeId → Result NodeId Errno
or_nowhere None = Err enoent
or_nowhere (Some id) = Ok id

abbrev pub found_by : World → NodeId → Option Address → Result NodeId Errno
found_by w from None = Err einval
found_by w from (Some address) = or_nowhere (walk w from address)
