-- The next hook is one that the box has, and then the box has the rest.
use Rattle.std.proofs.Common.{◌<◌, ◌∙◌, length, arith}
use Rattle.std.proofs.lemmas.Grind.{common_steps}
use Rattle.ng_topology.proofs.CutLemmas.{cut_next, has_next}
use Rattle.ng_topology.proofs.entry.cut_all.Goals as goal

pub cut-requires : goal.cut-requires
cut-requires g c =
    let inside : c.loop-hook.hook-index < length c.args.hooks.now = grind (arith, common_steps) in
    has_next (g.B.Node.state c.loop-hook.node) c.args.hooks.now c.loop-hook.hook-index c.hook-item.result inside c.hook-item.is c.loop-hook.invariant.names

pub loop-hook-preserved : goal.loop-hook-preserved
loop-hook-preserved g c =
    let inside : c.loop-hook.hook-index < length c.args.hooks.now = grind (arith, common_steps) in
    let after = cut_next (g.B.Node.state c.loop-hook.node) (g.B.Node.state c.cut.new.self) c.args.hooks.now c.loop-hook.hook-index c.hook-item.result inside c.hook-item.is c.loop-hook.invariant.differ c.loop-hook.invariant.names c.cut.ensures in
    record { names = after.names; differ = after.differ; same = after.same ∙ c.loop-hook.invariant.same }
