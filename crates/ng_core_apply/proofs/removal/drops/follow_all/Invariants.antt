-- What follows of the rest leads to the same world, and there is room for it.
use Rattle.ng_core_apply.proofs.removal.Dropped.{IsFollowed}
use Rattle.ng_core_apply.proofs.removal.drops.follow_all.Given as goal

abbrev pub invariant-loop-dropped : goal.invariant-loop-dropped
invariant-loop-dropped g l = IsFollowed l.fn.state l.state l.stamp l.fn.items.items l.dropped-iterator.rest.items
