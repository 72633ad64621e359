use Rattle.std.proofs.Common.{refl, ◌+◌}
use Rattle.ng_queue.specs.tally.Tally.{refused_one}
use Rattle.ng_queue.proofs.pending.HeldItems.{counted_held}
use Rattle.ng_queue.proofs.pending.pending.Pending.refuse.Goals as goal

pub returns-clause-holds : goal.returns-clause-holds
returns-clause-holds c = λ a H.
    counted_held c.args.self.now _ a (record a.world { refused = a.world.refused + 1 }) refused_one H refl refl c.refuse.ensures refl refl refl
