use Rattle.std.proofs.Common.{ℕ, ◌++◌, ap, ◌∙◌}
use Rattle.std.specs.Fmt.{decimal}
use Rattle.ngctl_print.specs.listing.Lists.{node_hooks}
use Rattle.ngctl_print.proofs.listing.Appends.{three}
use Rattle.ngctl_print.proofs.listing.lists.put_node_hooks.Goals as goal

pub returns : goal.returns
unfolding node_hooks
returns c =
    three _ _ _ _ _ _ _ c.in_ok-put_text.ensures
    (c.in_ok-put_decimal.ensures ∙ ap (λ (n : ℕ). c.put_text.new.out.items ++ decimal n) c.number_at.ensures)
    c.in_ok-put_text-2.ensures
