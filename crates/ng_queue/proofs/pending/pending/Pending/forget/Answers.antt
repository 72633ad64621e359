use Rattle.ng_queue.proofs.pending.HeldItems.{is_out_there}
use Rattle.ng_queue.proofs.pending.pending.Pending.forget.Goals as goal

pub done-requires-clause-there : goal.done-requires-clause-there
done-requires-clause-there c = c.requires.1.known c.args.item.now c.requires.2.0

pub done-requires-clause-out : goal.done-requires-clause-out
done-requires-clause-out c = is_out_there c.args.self.now c.requires.0 c.args.item.now c.requires.1 c.requires.2
