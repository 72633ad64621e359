use Rattle.std.proofs.Common.{refl}
use Rattle.ng_queue.specs.declared.tally.tally.Tally.{Tally}
use Rattle.ng_machine.specs.Feed.{later}
use Rattle.ng_queue.specs.tally.Tally.{with_time}
use Rattle.ng_queue.proofs.pending.HeldItems.{counted_held}
use Rattle.ng_queue.proofs.pending.pending.Pending.pass_time.Goals as goal

pub returns-clause-holds : goal.returns-clause-holds
returns-clause-holds c = λ a H.
    counted_held c.args.self.now _ a (record a.world { clock = later a.world.clock c.args.stamp }) (λ (t : Tally). with_time t c.args.stamp) H refl refl c.pass_time.ensures refl refl refl
