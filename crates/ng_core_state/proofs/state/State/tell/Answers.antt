use Rattle.std.proofs.Common.{refl}
use Rattle.ng_core_state.proofs.ToldEntries.{stands_told}
use Rattle.ng_core_state.proofs.state.State.tell.Goals as goal

pub returns-clause-stands : goal.returns-clause-stands
returns-clause-stands g c = λ a S. stands_told c.args.self.now _ a a.world c.args.told S S.items refl refl c.push_reserved.ensures.items refl (record { nodes = refl; stock = refl; next_link = refl; told = refl; ports = refl }) refl
