use Rattle.std.proofs.Common.{[], sym, subst}
use Rattle.ng_turn.specs.Rule.{Knows}
use Rattle.ng_turn.specs.Words.{desk_of}
use Rattle.ng_turn.proofs.Lists.{contains_here}
use Rattle.ng_turn.proofs.turn.Turn.take.Goals as goal

pub returns-clause-desk : goal.returns-clause-desk
returns-clause-desk g c = let pass = c.args.pass in let d = desk_of g.T.Desked.blank pass in
    c.wait_and_pop-value.ensures.desks pass.seat d
    (subst (λ v. Knows g.T.Desked.desk v pass.seat d) (sym c.requires.1) (contains_here (pass.seat, d) []))
