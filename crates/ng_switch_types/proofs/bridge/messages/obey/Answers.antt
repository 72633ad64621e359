-- The rows of the table that clear a link's counters.
use Rattle.ng_machine.specs.kinds.Bridge.{Link}
use Rattle.ng_machine.specs.Counters.{row_bytes}
use Rattle.ng_machine.specs.Outcome.{nothing, answers}
use Rattle.ng_switch_types.proofs.bridge.messages.obey.Goals as goal

pub returns-in-5 : goal.returns-in-5
returns-in-5 c = rw c.in-5.is (c.clear_stats.ensures (λ (l : Link). nothing))

pub returns-in-536870918 : goal.returns-in-536870918
returns-in-536870918 c = rw c.in-536870918.is (c.clear_stats-in-536870918.ensures (λ (l : Link). (answers c.args.bridge.now (row_bytes l.counters)).outcome))
