use Rattle.ng_queue.proofs.tally.Dropping.{left_after}
use Rattle.ng_queue.proofs.tally.tally.Tally.drop_for_node.Goals as goal

pub loop-item-preserved : goal.loop-item-preserved
loop-item-preserved c =
    left_after c.loop-item.self c.drop_with_node.new.self c.args.self.now c.item-item.result c.args.items.now c.args.items.now c.loop-item.item-index c.loop-item-test.true c.item-item.is c.drop_with_node.ensures c.loop-item.invariant
