use Rattle.std.proofs.Common.{◌≡◌, ◌<◌, length, map}
use Rattle.std.specs.Prelude.{slice_index_or, None}
use Rattle.std.specs.Arc.{arc_value}
use Rattle.std.specs.Option.{option_map}
use Rattle.ng_base.specs.declared.ids.NodeId.{NodeId}
use Rattle.ng_machine.specs.World.{node_in}
use Rattle.ng_core.specs.StillWorld.{way_at}
use Rattle.ng_core.proofs.still.plans_of.Given as goal

-- the plans of the nodes so far
abbrev pub invariant-loop-n : goal.invariant-loop-n
invariant-loop-n g l = record {
  count : length l.plans.items ≡ l.n;
  plans : (id : NodeId) → id.0 < l.n → slice_index_or (map (λ p. option_map arc_value p) l.plans.items) id.0 None ≡ way_at (node_in l.graph.nodes id);
}
