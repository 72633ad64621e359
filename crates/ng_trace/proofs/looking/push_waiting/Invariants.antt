-- The items that wait among the entries that the loop came to.
use Rattle.std.proofs.Common.{◌≡◌, ◌++◌, drop}
use Rattle.ng_queue.specs.Queue.{waiting_items}
use Rattle.ng_trace.specs.Endings.{spots}
use Rattle.ng_trace.proofs.looking.push_waiting.Given as goal

abbrev pub invariant-loop-i : goal.invariant-loop-i
invariant-loop-i g l =
    l.out.items ++ spots l.state.graph.nodes (waiting_items (drop l.i l.entries.items))
    ≡ l.fn.out.items ++ spots l.state.graph.nodes (waiting_items l.entries.items)
