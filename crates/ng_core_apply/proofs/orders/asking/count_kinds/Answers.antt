use Rattle.std.proofs.Common.{refl}
use Rattle.ng_machine.specs.Generic.{is_of_kind}
use Rattle.ng_core_apply.specs.orders.Asked.{count_of}
use Rattle.ng_core_apply.proofs.orders.Lists.{counts_more}
use Rattle.ng_core_apply.proofs.orders.asking.count_kinds.Goals as goal

pub loop-n-preserved : goal.loop-n-preserved
loop-n-preserved g c = λ kind.
    counts_more (is_of_kind kind) c.args.graph.now.nodes c.loop-n.n (count_of c.loop-n.counts kind) (count_of c.count_node.new.counts kind) refl (c.loop-n.invariant kind).0 (c.loop-n.invariant kind).1 (c.count_node.ensures kind)
