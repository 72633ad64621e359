use Rattle.std.proofs.Common.{arith}
use Rattle.std.proofs.lemmas.Grind.{common_steps}
use Rattle.ng_parse.proofs.Words.{groups_past}
use Rattle.ng_parse.proofs.addresses.address_of.Goals as goal

pub returns-in_default : goal.returns-in_default
returns-in_default c = grind (arith, common_steps, groups_past c.in_ok-f.rest.now c.in_default.len_at_least)
