use Rattle.std.proofs.Common.{◌+◌, sym, subst}
use Rattle.ng_queue.specs.tally.Tally.{HasNumbers}
use Rattle.ng_core_state.proofs.state.State.lose_sent.Goals as goal

pub returns-clause-numbers : goal.returns-clause-numbers
returns-clause-numbers g c = λ k h. c.lose.ensures.numbers k (subst (HasNumbers (k + 1)) (sym c.forgo.ensures.tally) h)
