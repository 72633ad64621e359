use Rattle.std.proofs.Common.{◌≡◌, ◌∙◌, ℕ, set, refl, sym, ap, subst}
use Rattle.std.specs.Prelude.{filter}
use Rattle.ng_machine.specs.declared.item.Item.{Item}
use Rattle.ng_queue.specs.Queue.{is_other}
use Rattle.ng_queue.specs.Queues.{list_at}
use Rattle.ng_queue.specs.tally.Tally.{Counts, done_with}
use Rattle.ng_queue.proofs.pending.HeldItems.{next_counts, next_held, served_held}
use Rattle.ng_queue.proofs.pending.pending.Pending.dequeue.Goals as goal

pub finish-requires-clause-counted : goal.finish-requires-clause-counted
finish-requires-clause-counted c =
    let N = next_held c.args.self.now c.requires.holds.0 c.args.at c.dequeue-item.result c.requires.holds.1 c.requires.least c.dequeue-item.ensures.head in
    subst (λ (x : Item). Counts c.args.self.now.tally x) (sym c.deref.ensures) (next_counts c.args.self.now c.requires.holds.0 c.dequeue-item.result c.requires.holds.1 N.0)

pub returns-clause-next : goal.returns-clause-next
returns-clause-next c = λ a H. next_held c.args.self.now a c.args.at c.dequeue-item.result H c.requires.least c.dequeue-item.ensures.head

pub returns-clause-holds : goal.returns-clause-holds
returns-clause-holds c = λ a H.
    let N = next_held c.args.self.now a c.args.at c.dequeue-item.result H c.requires.least c.dequeue-item.ensures.head in
    served_held c.args.self.now _ a c.dequeue-item.result c.args._seat H N.0
    (subst (λ (n : ℕ). c.dequeue-item.new.self.lists ≡ set c.args.self.now.queues.lists n (filter (is_other c.dequeue-item.result.id) (list_at c.args.self.now.queues.lists n))) (sym N.1) c.dequeue-item.ensures.lists)
    (c.finish.ensures ∙ ap (λ (x : Item). done_with c.args.self.now.tally x) c.deref.ensures) refl
