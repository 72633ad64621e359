use Rattle.std.proofs.Common.{ℕ, ap, ◌∙◌, slice_index_or, arith}
use Rattle.ng_core_apply.proofs.orders.asking.count_node.Goals as goal

pub overflow_add-counts : goal.overflow_add-counts
overflow_add-counts g c =
    let at = ap (λ (k : ℕ). slice_index_or c.args.counts.now k 0) (c.from.ensures ∙ c.number.ensures) in
    let few = c.requires c.in-Some.kind in
    omega arith
