use Rattle.std.proofs.Common.{refl}
use Rattle.ng_machine.specs.World.{start_of}
use Rattle.ng_queue.proofs.pending.HeldItems.{nothing_held}
use Rattle.ng_queue.proofs.pending.pending.Pending.new.Goals as goal

pub returns-clause-holds : goal.returns-clause-holds
returns-clause-holds c = λ own ports stock. nothing_held _ (start_of own ports stock) c.args.nodes c.in_ok-queues.ensures.lists refl refl refl
