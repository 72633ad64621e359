-- The node answers that it may get the hook.
use Rattle.std.proofs.Common.{refl}
use Rattle.std.specs.Prelude.{Ok}
use Rattle.ng_topology.proofs.NodeLemmas.{may_gets}
use Rattle.ng_node_tests.proofs.graphs.graph_at_rest.GraphAtRest.add_half.Goals as goal

pub add_half-requires-clause-may : goal.add_half-requires-clause-may
add_half-requires-clause-may g c κs within = may_gets c.self.inside.graph c.args.at.now (Ok c.in_ok-may.field-0) refl c.in_ok-may.ensures
