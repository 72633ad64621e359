use Rattle.ng_shape.proofs.Ascending.{first_other}
use Rattle.ng_shape.proofs.layout.front_member.Goals as goal

pub returns-else-first-number-clause-found : goal.returns-else-first-number-clause-found
returns-else-first-number-clause-found c =
    first_other c.args.members.now c.args.number c.first-item.result c.first-item.is c.in-len1-up.len_at_least c.requires c.if-first-number.false
