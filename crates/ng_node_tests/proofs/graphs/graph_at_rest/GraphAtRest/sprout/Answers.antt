-- The node answers that it may get the hook, and so does a blank box.
use Rattle.std.proofs.Common.{refl}
use Rattle.std.specs.Prelude.{Ok}
use Rattle.ng_topology.proofs.NodeLemmas.{may_gets, blank_may_gets}
use Rattle.ng_node_tests.proofs.graphs.graph_at_rest.GraphAtRest.sprout.Goals as goal

pub sprout-requires-clause-may : goal.sprout-requires-clause-may
sprout-requires-clause-may g c κs within = may_gets c.self.inside.graph c.args.at.now (Ok c.in_ok-may.field-0) refl c.in_ok-may.ensures

pub sprout-requires-clause-takes : goal.sprout-requires-clause-takes
sprout-requires-clause-takes g c κs within = (blank_may_gets c.self.inside.graph c.args.kind c.in_ok-hook.hook (Ok c.in_ok-blank_may.field-0) refl c.in_ok-blank_may.ensures).1
