use Rattle.std.proofs.Common.{◌+◌, length, refl, ap, arith}
use Rattle.ng_machine.specs.Run.{RunState}
use Rattle.ng_queue.specs.pending.Holds.{in_world}
use Rattle.ng_queue.specs.Queues.{QueueLists}
use Rattle.ng_core_state.specs.Stands.{Stands}
use Rattle.ng_core_state.proofs.SentItems.{stands_counted}
use Rattle.ng_core.proofs.intake.Numbers.{low_numbers}
use Rattle.ng_core.proofs.intake.feeding.feed_tick.Goals as goal
use Rattle.ng_core.proofs.intake.feeding.feed_tick.Goals.{After-feed}

fed : (g : _) (c : After-feed g) (a : RunState) → Stands c.args.state.now a → Stands (record c.widen_bridges.new.state { pending = c.feed.new.self }) (in_world a (record a.world { fed = a.world.fed + 1 }))
fed g c a S =
    let T = c.widen_bridges.ensures.stands a S in
    stands_counted c.widen_bridges.new.state (record c.widen_bridges.new.state { pending = c.feed.new.self }) a (record a.world { fed = a.world.fed + 1 }) T (c.feed.ensures.holds a T.items) refl
    (ap (λ (q : QueueLists). length q.lists) c.feed.ensures.queues) refl refl (record { nodes = refl; stock = refl; next_link = refl; told = refl; ports = refl }) refl

pub tick_all-requires-clause-standing : goal.tick_all-requires-clause-standing
tick_all-requires-clause-standing g c κs within =
    let at = (goal.at.tick_all-requires-clause-standing g c).After-feed in
    let W = c.requires.standing in (in_world W.0 (record W.0.world { fed = W.0.world.fed + 1 }), fed g at W.0 W.1)

pub tick_all-requires-clause-numbers : goal.tick_all-requires-clause-numbers
tick_all-requires-clause-numbers g c κs within =
    let W = c.requires.standing in
    c.feed.ensures.numbers c.min-end.result (low_numbers c.widen_bridges.new.state W.0 c.min-end.result (c.widen_bridges.ensures.stands W.0 W.1) W.2 (let m = c.min-end.ensures in omega arith))

pub returns-clause-fed : goal.returns-clause-fed
returns-clause-fed g c = λ a given S.
    let at = (goal.at.returns-clause-fed g c).After-feed in
    c.tick_all.ensures (in_world a (record a.world { fed = a.world.fed + 1 })) (fed g at a S)
