use Rattle.std.proofs.Common.{refl, ◌+◌}
use Rattle.ng_queue.specs.tally.Tally.{fed_one}
use Rattle.ng_queue.proofs.pending.HeldItems.{counted_held}
use Rattle.ng_queue.proofs.pending.pending.Pending.feed.Goals as goal

pub returns-clause-holds : goal.returns-clause-holds
returns-clause-holds c = λ a H.
    counted_held c.args.self.now _ a (record a.world { fed = a.world.fed + 1 }) fed_one H refl refl c.feed.ensures refl refl refl
