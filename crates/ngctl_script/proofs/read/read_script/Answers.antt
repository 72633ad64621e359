use Rattle.ngctl_script.proofs.Steps.{read_in_order}
use Rattle.ngctl_script.specs.Lines.{lines_of}
use Rattle.ngctl_script.proofs.read.read_script.Goals as goal

pub of-requires : goal.of-requires
of-requires c = read_in_order c.args.bytes.now c.loop-line.reading (lines_of c.loop-line.rest.now) c.loop-line.invariant c.in_default.ensures.line
