-- Both hooks are the two ends of one fresh link.
use Rattle.std.proofs.Common.{ap, refl}
use Rattle.ng_machine.specs.World.{node_id, with_hook}
use Rattle.ng_topology.specs.NodeEntry.{NodeEntry}
use Rattle.ng_topology.specs.NodePlaces.{NodePlaces}
use Rattle.ng_topology.proofs.NameLemmas.{consistent_change, consistent_push}
use Rattle.ng_topology.proofs.SproutLemmas.{is_sprout}
use Rattle.ng_topology.proofs.graph.Graph.sprout.Goals as goal

pub returns-in-Ok-clause-ok : goal.returns-in-Ok-clause-ok
returns-in-Ok-clause-ok g c =
    rw (← c.self.view_is)
    (is_sprout c.self.inside.places c.add.new.self c.push.new.self c.self.inside.stock c.take_with_hook.new.self c.self.inside.next_link c.args.at.now c.args.kind c.args.hook.now
    (node_id c.len.result) c.hook_to-ours.result c.hook_to.result c.with_hooks.result c.in_ok-hooks.hooks (g.B.Node.state c.in-Ok.node)
    (ap node_id c.len.ensures.nodes) c.hook_to.ensures c.hook_to-ours.ensures c.in_ok-hooks.ensures c.in_ok-add.ensures.ok c.in-Ok.ensures.node c.with_hooks.ensures c.push.ensures.nodes c.push.ensures.home c.in-Ok.ensures.rest)

pub invariant_of-self-in-Ok : goal.invariant_of-self-in-Ok
invariant_of-self-in-Ok g c =
    let added =
    consistent_change c.self.inside.places c.add.new.self c.self.inside.stock c.self.inside.names c.args.at.now.node (λ node. with_hook node c.hook_to-ours.result) (λ r. refl)
    (ap (λ (p : NodePlaces). p.nodes) c.in_ok-add.ensures.ok) (ap (λ (p : NodePlaces). p.room) c.in_ok-add.ensures.ok) c.self.invariant in
    consistent_push c.add.new.self c.push.new.self c.self.inside.stock c.take_with_hook.new.self c.self.inside.names c.with_hooks.result.node
    (ap (λ (e : NodeEntry). e.node.name) c.with_hooks.ensures) c.push.ensures.nodes c.push.ensures.room c.in-Ok.ensures.fewer added
