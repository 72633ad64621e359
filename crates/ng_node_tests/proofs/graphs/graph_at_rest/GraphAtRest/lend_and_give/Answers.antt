-- A box that was lent has what its node keeps.
use Rattle.std.proofs.Common.{◌∙◌, ap, sym}
use Rattle.ng_machine.specs.State.{State, kind_of}
use Rattle.ng_machine.specs.World.{node_in}
use Rattle.ng_topology.specs.Topology.{Topology}
use Rattle.ng_node_tests.proofs.graphs.graph_at_rest.GraphAtRest.lend_and_give.Goals as goal

pub give-requires-clause-fits : goal.give-requires-clause-fits
give-requires-clause-fits g c κs within = λ node there.
    let same = c.lend-node.ensures.state node (sym (ap (λ (t : Topology). node_in t.nodes c.args.id) c.lend-node.ensures.after) ∙ there) in
    record { kind = ap kind_of same; hooks = ap (λ (s : State). s.hooks) same }
