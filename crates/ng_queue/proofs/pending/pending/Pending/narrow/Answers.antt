use Rattle.std.proofs.Common.{refl}
use Rattle.ng_queue.proofs.pending.HeldItems.{same_held}
use Rattle.ng_queue.proofs.pending.pending.Pending.narrow.Goals as goal

pub returns-clause-holds : goal.returns-clause-holds
returns-clause-holds c = λ a H. same_held c.args.self.now _ a H c.narrow.ensures.lists refl refl
