use Rattle.std.proofs.Common.{◌≡◌, ℕ, ◌+◌, subst, arith}
use Rattle.ng_queue.specs.tally.Tally.{HasNumbers}
use Rattle.ng_queue.specs.pending.Holds.{done_from}
use Rattle.ng_core_apply.proofs.removal.ends.ask_peer.Goals as goal

pub accept_at-requires-clause-numbers : goal.accept_at-requires-clause-numbers
accept_at-requires-clause-numbers g c κs within = c.finish.ensures.numbers 1 c.requires.numbers

pub returns-clause-stands : goal.returns-clause-stands
returns-clause-stands g c = λ a S o. c.accept_at.ensures.stands (done_from a c.args.item.now) c.args.item.now.to (c.finish.ensures.stands a S o)

pub returns-clause-numbers : goal.returns-clause-numbers
returns-clause-numbers g c = λ k H.
    c.accept_at.ensures.numbers k (c.finish.ensures.numbers (k + 1) (subst (λ (n : ℕ). HasNumbers n c.args.state.now.pending.tally) (let e : k + 2 ≡ k + 1 + 1 = omega arith in e) H))
