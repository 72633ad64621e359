use Rattle.std.proofs.Common.{◌≡◌, drop}
use Rattle.ng_queue.specs.Queue.{lane_out}
use Rattle.ng_queue.proofs.scan.find_lane_out.Given as goal

abbrev pub invariant-loop-i : goal.invariant-loop-i
invariant-loop-i l = lane_out l.lane (drop l.i l.entries.items) ≡ lane_out l.lane l.entries.items
