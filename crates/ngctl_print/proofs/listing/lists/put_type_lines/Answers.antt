use Rattle.ngctl_print.specs.listing.Lists.{type_line}
use Rattle.ngctl_print.proofs.listing.Lines.{one_more}
use Rattle.ngctl_print.proofs.listing.lists.put_type_lines.Goals as goal

pub loop-number-preserved : goal.loop-number-preserved
loop-number-preserved c = one_more type_line 36 c.loop-number.number c.args.kinds.now _ _ _ _ c.tail.ensures.bytes c.loop-number.invariant c.in_ok-put_type.ensures
