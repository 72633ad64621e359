use Rattle.std.proofs.Common.{refl}
use Rattle.ng_core_state.proofs.TakenItems.{stands_taken}
use Rattle.ng_core_state.proofs.state.State.take_at.Goals as goal

pub take-requires-clause-holds : goal.take-requires-clause-holds
take-requires-clause-holds g c = (c.requires.standing.0, c.requires.standing.1.items)

pub returns-clause-next : goal.returns-clause-next
returns-clause-next g c = λ a S. c.take.ensures.next a S.items

pub returns-clause-after : goal.returns-clause-after
returns-clause-after g c = λ a S. stands_taken c.args.self.now _ a c.take.result c.args._seat S (c.take.ensures.holds a S.items) refl c.take.ensures.lists refl refl
