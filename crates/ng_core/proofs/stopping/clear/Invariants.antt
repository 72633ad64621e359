-- The queues that the loop has come to are empty, and the others are as they were.
use Rattle.std.proofs.Common.{◌≡◌, ℕ, [], length, ◌<◌, ◌≤◌}
use Rattle.ng_queue.specs.Queues.{list_at}
use Rattle.ng_core.proofs.stopping.clear.Given as goal

abbrev pub invariant-loop-at : goal.invariant-loop-at
invariant-loop-at l =
    (length l.queues.lists ≡ length l.fn.queues.lists)
    × ((n : ℕ) → n < l.at → list_at l.queues.lists n ≡ [])
    × ((n : ℕ) → l.at ≤ n → list_at l.queues.lists n ≡ list_at l.fn.queues.lists n)
