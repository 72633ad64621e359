use Rattle.std.proofs.Common.{◌≡◌, ◌+◌, ◌*◌, ◌^◌, ◌≤◌, drop}
use Rattle.ngctl_script.specs.feed.Merge.{packet_count}
use Rattle.ngctl_script.proofs.feed.list.count.Given as goal

abbrev pub invariant-loop-queue : goal.invariant-loop-queue
invariant-loop-queue l = record {
  counted : l.packets + packet_count (drop l.queue-index l.queues) ≡ packet_count l.queues;
  low : l.packets ≤ l.queue-index * 2 ^ 64;
}
