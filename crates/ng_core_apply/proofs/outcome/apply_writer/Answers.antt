use Rattle.ng_core_apply.proofs.AtHands.{nothing_out, written_at, writes_stay}
use Rattle.ng_core_apply.proofs.outcome.apply_writer.Goals as goal

pub returns-in-Ok-clause-applied : goal.returns-in-Ok-clause-applied
returns-in-Ok-clause-applied g c = λ a was H.
    let D = H.1 in (
      c.in-Ok.ensures.applied a was H.0.stands H.0.at H.0.low (written_at c.args.item was (g.B.Node.state c.args.node) c.args.outcome D),
      nothing_out g.B.Node.state a c.args.item was H.0.at (writes_stay c.args.item was D.0 D.1),
    )
