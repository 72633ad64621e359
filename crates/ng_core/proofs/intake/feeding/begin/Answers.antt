use Rattle.std.proofs.Common.{◌∙◌, ◌+◌, length, refl, ap}
use Rattle.ng_machine.specs.declared.told.Told.TheVariants.{Line}
use Rattle.ng_queue.specs.pending.Holds.{in_world}
use Rattle.ng_queue.specs.Queues.{QueueLists}
use Rattle.ng_core_state.proofs.ToldEntries.{stands_told}
use Rattle.ng_core.proofs.intake.feeding.begin.Goals as goal

pub returns-clause-stands : goal.returns-clause-stands
returns-clause-stands g c = λ a S.
    let w = record a.world { fed = a.world.fed + 1 } in
    stands_told c.args.state.now _ a (record w { command = c.args.number }) (Line c.args.number) S
    (c.begin_command.ensures.holds (in_world a w) (c.feed.ensures.holds a S.items)) refl
    (ap (λ (q : QueueLists). length q.lists) (c.begin_command.ensures.queues ∙ c.feed.ensures.queues))
    c.push_reserved.ensures.items refl (record { nodes = refl; stock = refl; next_link = refl; told = refl; ports = refl }) refl

pub returns-clause-numbers : goal.returns-clause-numbers
returns-clause-numbers g c = λ k N. c.begin_command.ensures.numbers k (c.feed.ensures.numbers k N)
