use Rattle.std.proofs.Common.{◌≡◌, ◌+◌, Bool, false, length, sym, ap, subst, refl}
use Rattle.std.proofs.lemmas.Bool.{ne_eqb}
use Rattle.ng_machine.specs.Change.{change_all}
use Rattle.ng_machine.specs.Effect.{counts_unless, is_fine}
use Rattle.ng_queue.specs.pending.Holds.{in_world}
use Rattle.ng_queue.specs.Queues.{QueueLists}
use Rattle.ng_core_state.specs.Stands.{Stands}
use Rattle.ng_core_state.proofs.SentItems.{stands_counted}
use Rattle.ng_core_state.proofs.state.State.count_refused.Goals as goal

pub returns-then-errno-ne0-clause-stands : goal.returns-then-errno-ne0-clause-stands
returns-then-errno-ne0-clause-stands g c = λ a at stamp S.
    let refused : is_fine c.args.errno ≡ false = ne_eqb c.args.errno.0 0 c.if-errno-ne0.true in
    subst (λ (b : Bool). Stands (record c.args.self.now { pending = c.refuse.new.self }) (in_world a (change_all at stamp a.world (counts_unless b)))) (sym refused)
    (stands_counted c.args.self.now (record c.args.self.now { pending = c.refuse.new.self }) a (record a.world { refused = a.world.refused + 1 }) S (c.refuse.ensures.holds a S.items) refl (ap (λ (q : QueueLists). length q.lists) c.refuse.ensures.queues) refl refl
    (record { nodes = refl; stock = refl; next_link = refl; told = refl; ports = refl }) refl)
