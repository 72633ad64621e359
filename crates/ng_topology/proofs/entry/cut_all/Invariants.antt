-- The box has the hooks that are left.
use Rattle.std.proofs.Common.{◌≡◌, map}
use Rattle.std.specs.Prelude.{drop}
use Rattle.ng_topology.specs.hooks.Hooks.{NamesDiffer}
use Rattle.ng_topology.specs.NodeEntry.{without_all}
use Rattle.ng_topology.proofs.entry.cut_all.Given as goal

abbrev pub invariant-loop-hook : goal.invariant-loop-hook
invariant-loop-hook g l = record {
  names : map (λ h. h.name) (drop l.hook-index l.hooks) ≡ (g.B.Node.state l.node).hooks;
  differ : NamesDiffer (drop l.hook-index l.hooks);
  same : without_all (g.B.Node.state l.node) ≡ without_all (g.B.Node.state l.fn.node);
}
