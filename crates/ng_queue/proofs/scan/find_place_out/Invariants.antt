use Rattle.std.proofs.Common.{drop}
use Rattle.ng_queue.specs.Queue.{IsOut}
use Rattle.ng_queue.proofs.scan.find_place_out.Given as goal

abbrev pub invariant-loop-i : goal.invariant-loop-i
invariant-loop-i l = IsOut l.id (drop l.i l.entries.items)
