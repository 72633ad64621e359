-- What is left leads to the same text.
use Rattle.std.proofs.Common.{◌≡◌, ◌++◌, drop}
use Rattle.ng_trace.specs.Text.{packet_lines}
use Rattle.ng_trace.proofs.lines.put_lines.Given as goal

abbrev pub invariant-loop-i : goal.invariant-loop-i
invariant-loop-i l =
    l.out.items ++ packet_lines l.names l.counts (drop l.i l.arrivals) (drop l.i l.journeys) ≡ l.fn.out.items ++ packet_lines l.names l.fn.counts l.arrivals l.journeys
