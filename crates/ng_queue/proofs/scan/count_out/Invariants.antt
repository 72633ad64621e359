use Rattle.std.proofs.Common.{◌≡◌, ◌+◌, ◌≤◌, drop}
use Rattle.ng_queue.specs.Queue.{out_count}
use Rattle.ng_queue.proofs.scan.count_out.Given as goal

abbrev pub invariant-loop-i : goal.invariant-loop-i
invariant-loop-i l = (l.n ≤ l.i) × (l.n + out_count (drop l.i l.entries.items) ≡ out_count l.entries.items)
