-- The box has the names of the hooks, so it lacks what they lack.
use Rattle.std.proofs.Common.{◌≡◌, false, map, find, is_some}
use Rattle.ng_machine.specs.World.{is_named}
use Rattle.std.specs.Arc.{arc_value}
use Rattle.std.specs.Option.{option_map}
use Rattle.ng_topology.proofs.NodeLemmas.{lacks_names, consistent_added}
use Rattle.ng_topology.proofs.entry.Entry.add.Goals as goal

pub newhook-requires-clause-fresh : goal.newhook-requires-clause-fresh
newhook-requires-clause-fresh g c =
    let fresh : is_some (find (is_named c.args.hook.name) c.self.inside.hooks) ≡ false = rw (← c.self.view_is) at c.requires.takes.fresh in
    let names : map (λ h. h.name) c.self.inside.hooks ≡ (g.B.Node.state c.in-Some.node).hooks = rw c.in-Some.is at c.self.invariant.hooks in
    lacks_names c.self.inside.hooks (g.B.Node.state c.in-Some.node).hooks c.args.hook.name names fresh

pub invariant_of-self-in-Ok : goal.invariant_of-self-in-Ok
invariant_of-self-in-Ok g c =
    consistent_added c.self.inside.kind (g.B.Node.state c.in-Some.node) (g.B.Node.state c.newhook.new.self) c.self.inside.hooks c.push.new.self
    (option_map arc_value c.self.inside.plan) c.args.hook (rw c.in-Some.is at c.self.invariant) c.in-Ok.ensures.ok c.in_ok-push.ensures.ok
