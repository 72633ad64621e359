-- The rows of the table that name a link, and setconfig.
use Rattle.std.proofs.Common.{ℕ, List}
use Rattle.ng_machine.specs.kinds.One2many.{many_clear}
use Rattle.ng_switch_types.proofs.one2many.messages.reply.Goals as goal

pub returns-in-1 : goal.returns-in-1
returns-in-1 c = rw c.in-1.is (c.allow_config.ensures c.args.one2many.now)

pub returns-in-536870915 : goal.returns-in-536870915
returns-in-536870915 c = rw c.in-536870915.is (c.get_stats.ensures (λ (hook : List ℕ). c.args.one2many.now))

pub returns-in-4 : goal.returns-in-4
returns-in-4 c = rw c.in-4.is (c.allow_clear.ensures (many_clear c.args.one2many.now))

pub returns-in-536870917 : goal.returns-in-536870917
returns-in-536870917 c = rw c.in-536870917.is (c.get_stats-in-536870917.ensures (many_clear c.args.one2many.now))
