use Rattle.ng_machine.specs.World.{kind_at}
use Rattle.ng_core_apply.proofs.AtHands.{nothing_out, read_at, reads_home, reads_stay}
use Rattle.ng_core_apply.proofs.outcome.apply_packet.Goals as goal

pub apply_read-requires-clause-home : goal.apply_read-requires-clause-home
apply_read-requires-clause-home g c κs within =
    let W = c.requires.work in
    let D = W.1.1.1 in
    reads_home c.args.state.now c.args.item W.0 W.1.0 D.0 W.1.1.0 D.1

pub returns-in-Ok-clause-applied : goal.returns-in-Ok-clause-applied
returns-in-Ok-clause-applied g c = λ a node H.
    let D = H.1 in (
      c.in-Ok.ensures.applied a node H.0.stands H.0.at H.0.low (read_at c.args.item node c.args.outcome D),
      nothing_out g.B.Node.state a c.args.item node H.0.at (reads_stay (kind_at node) D.0 c.args.item.body c.args.outcome D.2),
    )
