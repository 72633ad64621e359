use Rattle.std.proofs.Common.{◌≡◌, replicate}
use Rattle.ng_queue.specs.Queue.{empty_queue}
use Rattle.ng_queue.proofs.queues.Queues.new.Given as goal

abbrev pub invariant-loop-i : goal.invariant-loop-i
invariant-loop-i l = l.queues.items ≡ replicate l.i empty_queue
