use Rattle.std.proofs.Common.{refl}
use Rattle.ng_core_apply.proofs.removal.Retired.{stands_retired}
use Rattle.ng_core_apply.proofs.removal.retiring.retire.Goals as goal

pub returns-clause-stands : goal.returns-clause-stands
returns-clause-stands g c = λ a S none. stands_retired c.args.state.now _ a c.args.at S (c.retire-items.ensures.holds a S.items none) c.retire-node.ensures.after c.retire-items.ensures.lists refl refl
