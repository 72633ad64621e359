use Rattle.std.proofs.Common.{◌≡◌, ◌+◌, ◌*◌, ◌^◌, ◌<◌, ◌++◌, length}
use Rattle.ngctl_script.specs.feed.Merge.{merged, with_next}
use Rattle.ngctl_script.specs.feed.Dealing.{feeds_from, rest_from}
use Rattle.ngctl_script.proofs.feed.Merged.{is_next_early}
use Rattle.ngctl_script.proofs.feed.list.feed_packets.Given as goal

abbrev pub invariant-loop-next : goal.invariant-loop-next
invariant-loop-next l = record {
  inputs : l.inputs.items ++ feeds_from l.packets l.first l.clock l.place l.commands (with_next l.next (merged l.queues.items))
      ≡ l.initial.inputs.items ++ feeds_from l.packets l.first l.initial.clock 1 l.initial.commands (with_next l.initial.next (merged l.initial.queues.items));
  rest : rest_from l.packets l.place l.commands (with_next l.next (merged l.queues.items))
      ≡ rest_from l.packets 1 l.initial.commands (with_next l.initial.next (merged l.initial.queues.items));
  place : l.place + length (with_next l.next (merged l.queues.items)) ≡ l.packets + 1;
  few : length l.queues.items < 2 ^ 32;
  clock : l.clock.0 < 2 ^ 32 * 1000000000;
  early : is_next_early l.next;
}

abbrev pub decreases-loop-next : goal.decreases-loop-next
decreases-loop-next l = length (with_next l.next (merged l.queues.items))
