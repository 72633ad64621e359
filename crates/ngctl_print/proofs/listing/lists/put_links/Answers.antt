use Rattle.ngctl_print.specs.listing.Lists.{hook_line}
use Rattle.ngctl_print.proofs.listing.Lines.{one_more}
use Rattle.ngctl_print.proofs.listing.lists.put_links.Goals as goal

pub loop-number-preserved : goal.loop-number-preserved
loop-number-preserved c = one_more hook_line 136 c.loop-number.number c.args.links.now _ _ _ _ c.tail.ensures.bytes c.loop-number.invariant c.in_ok-put_hook.ensures
