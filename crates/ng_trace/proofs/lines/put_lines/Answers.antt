use Rattle.std.proofs.Common.{◌++◌}
use Rattle.ng_trace.specs.Text.{packet_lines}
use Rattle.ng_trace.proofs.Traced.{lines_end}
use Rattle.ng_trace.proofs.lines.put_lines.Goals as goal

pub returns : goal.returns
returns c =
    lines_end c.args.names.now c.loop-i.counts c.args.arrivals.now c.args.journeys.now c.min-i-end.result c.loop-i.i c.loop-i.out.items
    (c.args.out.now.items ++ packet_lines c.args.names.now c.args.counts.now c.args.arrivals.now c.args.journeys.now) c.min-i-end.ensures c.loop-i-test.false c.loop-i.invariant
