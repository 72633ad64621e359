use Rattle.ng_queue.specs.pending.Holds.{done_from}
use Rattle.ng_core_state.proofs.step.pieces.finish_accepted.Goals as goal

pub accept_at-requires-clause-numbers : goal.accept_at-requires-clause-numbers
accept_at-requires-clause-numbers g c κs within = c.finish.ensures.numbers 1 c.requires.numbers

pub returns : goal.returns
returns g c = λ a S o. c.accept_at.ensures.stands (done_from a c.args.item.now) c.args.item.now.to (c.finish.ensures.stands a S o)
