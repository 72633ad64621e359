use Rattle.ngctl_script.proofs.Orderly.{are_commands}
use Rattle.ngctl_script.proofs.laws.commands_are_in_order.Goals as goal

pub returns : goal.returns
returns c = are_commands
