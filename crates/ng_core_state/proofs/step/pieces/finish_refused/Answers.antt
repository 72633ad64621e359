use Rattle.ng_queue.specs.pending.Holds.{done_from}
use Rattle.ng_core_state.proofs.step.pieces.finish_refused.Goals as goal

pub returns : goal.returns
returns g c = λ a S o. c.refuse.ensures.stands (done_from a c.args.item.now) c.args.item.now.to c.args.item.now.stamp (c.finish.ensures.stands a S o)
