use Rattle.std.proofs.Common.{◌≡◌, ◌++◌, take}
use Rattle.ng_machine.specs.Counters.{counts_packets}
use Rattle.ng_plan.proofs.lookup.sending.count_packets.Given as goal

abbrev pub invariant-loop-hook : goal.invariant-loop-hook
invariant-loop-hook l = l.counts ≡ l.initial.counts ++ counts_packets l.packets l.octets (take l.hook-index l.hooks) l.len
