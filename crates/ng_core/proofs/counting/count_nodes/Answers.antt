use Rattle.std.proofs.Common.{ℕ, ◌+◌, refl, ap}
use Rattle.std.specs.Prelude.{is_some}
use Rattle.ng_core_apply.proofs.orders.Lists.{counts_more}
use Rattle.ng_core.proofs.counting.count_nodes.Goals as goal

pub loop-n-preserved : goal.loop-n-preserved
loop-n-preserved g c =
    counts_more (λ node. is_some node) c.args.graph.now.nodes c.loop-n.n c.loop-n.count (c.loop-n.count + c.nodes_at-count.result) refl c.loop-n.invariant.0 c.loop-n.invariant.1 (ap (λ (k : ℕ). c.loop-n.count + k) c.nodes_at-count.ensures)
