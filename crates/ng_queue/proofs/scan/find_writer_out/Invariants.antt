use Rattle.std.proofs.Common.{◌≡◌, drop}
use Rattle.ng_queue.specs.Queue.{writer_out}
use Rattle.ng_queue.proofs.scan.find_writer_out.Given as goal

abbrev pub invariant-loop-i : goal.invariant-loop-i
invariant-loop-i l = writer_out (drop l.i l.entries.items) ≡ writer_out l.entries.items
