-- What is left to drop leads to the same numbers.
use Rattle.std.proofs.Common.{◌≡◌}
use Rattle.std.specs.Prelude.{drop}
use Rattle.ng_queue.specs.tally.Tally.{HasNumbers, HasCounted, without_node}
use Rattle.ng_queue.proofs.tally.tally.Tally.drop_for_node.Given as goal

abbrev pub invariant-loop-item : goal.invariant-loop-item
invariant-loop-item l =
    HasNumbers 0 l.self
    × HasCounted l.self (drop l.item-index l.items)
    × (without_node l.self (drop l.item-index l.items) ≡ without_node l.fn.self l.fn.items)
