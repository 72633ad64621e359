use Rattle.std.proofs.Common.{◌≡◌, ℕ, map, set, refl, sym, subst}
use Rattle.ng_queue.specs.Queue.{take_out}
use Rattle.ng_queue.specs.Queues.{list_at}
use Rattle.ng_queue.proofs.pending.HeldItems.{next_held, taken_held}
use Rattle.ng_queue.proofs.pending.pending.Pending.take.Goals as goal

pub returns-clause-next : goal.returns-clause-next
returns-clause-next c = λ a H. next_held c.args.self.now a c.args.at c.take-item.result H c.requires.least c.take-item.ensures.head

pub returns-clause-holds : goal.returns-clause-holds
returns-clause-holds c = λ a H.
    let N = next_held c.args.self.now a c.args.at c.take-item.result H c.requires.least c.take-item.ensures.head in
    taken_held c.args.self.now _ a c.take-item.result c.args._seat H N.0
    (subst (λ (n : ℕ). c.take-item.new.self.lists ≡ set c.args.self.now.queues.lists n (map (take_out c.take-item.result.id) (list_at c.args.self.now.queues.lists n))) (sym N.1) c.take-item.ensures.lists)
    refl refl
