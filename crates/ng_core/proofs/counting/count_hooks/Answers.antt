use Rattle.std.proofs.Common.{◌<◌, ◌^◌, sym, subst, arith}
use Rattle.ng_machine.specs.World.{node_id, node_in}
use Rattle.ng_core.proofs.HookTotals.{count_few, total_more}
use Rattle.ng_core.proofs.counting.count_hooks.Goals as goal
use Rattle.ng_core.proofs.counting.count_hooks.Goals.{After-hooks_at-count}

few : (g : _) (c : After-hooks_at-count g) → c.hooks_at-count.result < 2 ^ 24
few g c = subst (λ k. k < 2 ^ 24) (sym c.hooks_at-count.ensures) (count_few (node_in c.args.graph.now.nodes (node_id c.loop-n.n)) (2 ^ 24) (omega arith) (λ node here. c.requires.few (node_id c.loop-n.n) node here))

pub overflow_add-count : goal.overflow_add-count
overflow_add-count g c = let le = few g (goal.at.overflow_add-count g c).After-hooks_at-count in let so_far = c.loop-n.invariant.1 in let lt = c.loop-n-test.true in omega arith

pub loop-n-preserved : goal.loop-n-preserved
loop-n-preserved g c =
    let le = few g (goal.at.loop-n-preserved g c).After-hooks_at-count in
    let so_far = c.loop-n.invariant.0 in
    let bound = c.loop-n.invariant.1 in
    let here = c.hooks_at-count.ensures in
    let more = total_more c.args.graph.now.nodes c.loop-n.n in (omega arith, omega arith)
