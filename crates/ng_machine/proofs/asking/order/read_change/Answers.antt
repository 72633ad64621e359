-- The order to connect, or einval.
use Rattle.std.proofs.Common.{take}
use Rattle.ng_machine.specs.Order.{read_connect}
use Rattle.ng_machine.specs.asking.Orders.{HasPath}
use Rattle.ng_machine.proofs.asking.Field.{answered}
use Rattle.ng_machine.proofs.asking.order.read_change.Goals as goal

pub returns-in-3-clause-order : goal.returns-in-3-clause-order
returns-in-3-clause-order c =
    rw c.in-3.is (rw c.ok_or-in-3.ensures.value
    (answered c.read_connect.result (read_connect c.args.args.now) (HasPath (take 512 c.args.args.now)) c.read_connect.ensures.some c.read_connect.ensures.none))
