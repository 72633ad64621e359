-- Each world with these nodes is walked alike.
use Rattle.std.proofs.Common.{◌∙◌, sym}
use Rattle.ng_topology.specs.Topology.{world_of, address_of}
use Rattle.ng_topology.proofs.WalkLemmas.{walk_same}
use Rattle.ng_topology.proofs.graph.Graph.walk.Goals as goal

pub returns : goal.returns
returns g c = λ w same. c.follow.ensures ∙ walk_same (world_of c.args.self.now.nodes) w (sym same) c.args.from (address_of c.args.path.now.head c.args.path.now.hooks)
