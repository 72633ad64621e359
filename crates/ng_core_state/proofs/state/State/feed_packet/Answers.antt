use Rattle.std.proofs.Common.{◌∙◌, ◌+◌, sym, ap, subst}
use Rattle.std.specs.declared.option.Option.{Option}
use Rattle.std.specs.declared.option.Option.TheVariants.{None}
use Rattle.ng_machine.specs.declared.body.Body.TheVariants.{Frame}
use Rattle.ng_machine.specs.declared.body.Door.TheVariants.{Wire}
use Rattle.ng_machine.specs.Change.{accept_at}
use Rattle.ng_machine.specs.Feed.{arrive}
use Rattle.ng_machine.specs.World.{World, NodeRecord, port_node}
use Rattle.ng_queue.specs.pending.Holds.{in_world}
use Rattle.ng_core_state.specs.Stands.{Stands}
use Rattle.ng_core_state.proofs.FedPackets.{accepts_at}
use Rattle.ng_core_state.proofs.SentItems.{kind_node, no_node}
use Rattle.ng_core_state.proofs.state.State.feed_packet.Goals as goal

pub returns-in-Some : goal.returns-in-Some
returns-in-Some g c = λ a given S.
    let T = c.arrive.ensures.stands a S in
    let k = kind_node c.arrive.new.self.graph.nodes (arrive (record (a.world) { fed = a.world.fed + 1 }) c.args.port c.args.stamp).nodes (port_node c.args.port) c.in-Some.kind T.graph.nodes (sym c.kind.ensures ∙ c.in-Some.is) in
    subst (λ (v : World). Stands c.accept.new.self (in_world a v)) (accepts_at (arrive (record (a.world) { fed = a.world.fed + 1 }) c.args.port c.args.stamp) (port_node c.args.port) k.node c.in-Some.kind (Frame Wire None c.args.packet) c.args.stamp k.is k.kind_is)
    (c.accept.ensures.stands (in_world a (arrive (record (a.world) { fed = a.world.fed + 1 }) c.args.port c.args.stamp)) k.node T k.is k.kind_is)

pub returns-in_default : goal.returns-in_default
returns-in_default g c = λ a given S.
    let T = c.arrive.ensures.stands a S in
    let none = no_node c.arrive.new.self.graph.nodes (arrive (record (a.world) { fed = a.world.fed + 1 }) c.args.port c.args.stamp).nodes (port_node c.args.port) T.graph.nodes (sym c.kind.ensures ∙ c.in_default.is) in
    subst (λ (v : World). Stands c.arrive.new.self (in_world a v))
    (sym (ap (λ (o : Option NodeRecord). accept_at (arrive (record (a.world) { fed = a.world.fed + 1 }) c.args.port c.args.stamp) (port_node c.args.port) o (Frame Wire None c.args.packet) None c.args.stamp) none)) T

pub accept-requires-clause-there : goal.accept-requires-clause-there
accept-requires-clause-there g c κs within =
    let T = c.arrive.ensures.stands c.requires.standing.0 c.requires.standing.1 in
    let k = kind_node c.arrive.new.self.graph.nodes (arrive (record (c.requires.standing.0.world) { fed = c.requires.standing.0.world.fed + 1 }) c.args.port c.args.stamp).nodes (port_node c.args.port) c.in-Some.kind T.graph.nodes (sym c.kind.ensures ∙ c.in-Some.is) in
    (in_world c.requires.standing.0 (arrive (record (c.requires.standing.0.world) { fed = c.requires.standing.0.world.fed + 1 }) c.args.port c.args.stamp), T, (k.node, k.is))
