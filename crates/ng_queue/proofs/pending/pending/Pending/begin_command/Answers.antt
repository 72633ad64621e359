use Rattle.std.proofs.Common.{refl}
use Rattle.ng_queue.specs.declared.tally.tally.Tally.{Tally}
use Rattle.ng_queue.specs.tally.Tally.{with_command}
use Rattle.ng_queue.proofs.pending.HeldItems.{counted_held}
use Rattle.ng_queue.proofs.pending.pending.Pending.begin_command.Goals as goal

pub returns-clause-holds : goal.returns-clause-holds
returns-clause-holds c = λ a H.
    counted_held c.args.self.now _ a (record a.world { command = c.args.number }) (λ (t : Tally). with_command t c.args.number) H refl refl c.begin_command.ensures refl refl refl
