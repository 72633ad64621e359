-- What waits may go to another thread.
use denote.Param.Send.{IsSend, sendable}
use Rattle.ng_machine.proofs.Sendable.{item_send}
use Rattle.ng_queue.specs.contracts.pending.pending.Pending as Pending
use Rattle.ng_queue.specs.contracts.queue.NodeQueue as NodeQueue
use Rattle.ng_queue.specs.contracts.queues.Queues as Queues
use Rattle.std.proofs.Crossing.{crosses}
use Rattle.std.proofs.MapsCrossing.{crosses as maps}

pub queue_send : IsSend NodeQueue.the_row
queue_send = search (item_send, sendable, crosses, maps) depth 90 fits 300000

pub queues_send : IsSend Queues.the_row
queues_send = search (queue_send, sendable, crosses, maps) depth 90 fits 300000

pub pending_send : IsSend Pending.the_row
pending_send = search (queues_send, sendable, crosses, maps) depth 90 fits 300000
