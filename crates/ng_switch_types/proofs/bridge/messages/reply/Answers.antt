-- The rows of the table that name a link.
use Rattle.ng_machine.specs.kinds.Bridge.{Link, bridge_clear}
use Rattle.ng_switch_types.proofs.bridge.messages.reply.Goals as goal

pub returns-in-536870916 : goal.returns-in-536870916
returns-in-536870916 c = rw c.in-536870916.is (c.get_stats.ensures (λ (l : Link). c.args.bridge.now))

pub returns-in-5 : goal.returns-in-5
returns-in-5 c = rw c.in-5.is (c.allow_clear.ensures (bridge_clear c.args.bridge.now))

pub returns-in-536870918 : goal.returns-in-536870918
returns-in-536870918 c = rw c.in-536870918.is (c.get_stats-in-536870918.ensures (bridge_clear c.args.bridge.now))
