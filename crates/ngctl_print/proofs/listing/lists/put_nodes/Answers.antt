use Rattle.ngctl_print.specs.listing.Lists.{node_line}
use Rattle.ngctl_print.proofs.listing.Lines.{one_more}
use Rattle.ngctl_print.proofs.listing.lists.put_nodes.Goals as goal

pub loop-number-preserved : goal.loop-number-preserved
loop-number-preserved c = one_more node_line 72 c.loop-number.number c.args.nodes.now _ _ _ _ c.tail.ensures.bytes c.loop-number.invariant c.in_ok-put_node.ensures
