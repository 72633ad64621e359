use Rattle.ng_queue.proofs.pending.HeldItems.{next_held, none_held}
use Rattle.ng_queue.proofs.pending.pending.Pending.least.Goals as goal

pub returns-in_default-clause-none : goal.returns-in_default-clause-none
returns-in_default-clause-none c = λ a H item M. none_held c.args.self.now a item H c.in_default.ensures M

pub returns-clause-next : goal.returns-clause-next
returns-clause-next c = λ a item H e. (next_held c.args.self.now a c.in-Some.at item H c.in-Some.ensures e).0
