use Rattle.std.proofs.Common.{◌≡◌, ◌++◌}
use Rattle.ngctl_print.specs.listing.Lists.{hook_line, lines_of}
use Rattle.ngctl_print.proofs.listing.lists.put_links.Given as goal

abbrev pub invariant-loop-number : goal.invariant-loop-number
invariant-loop-number l = l.out.items ≡ l.fn.out.items ++ lines_of hook_line 136 l.number l.links
