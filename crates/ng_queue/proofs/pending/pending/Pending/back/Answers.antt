use Rattle.std.proofs.Common.{◌≡◌, ◌<◌, length, map, set, refl, sym, subst, arith}
use Rattle.ng_machine.specs.declared.item.Item.{Item}
use Rattle.ng_queue.specs.Queue.{IsOutAs, mark_of, put_back}
use Rattle.ng_queue.specs.Queues.{list_at}
use Rattle.ng_queue.proofs.pending.HeldItems.{marked, back_held, some_out}
use Rattle.ng_queue.proofs.pending.pending.Pending.back.Goals as goal

pub back-requires-clause-there : goal.back-requires-clause-there
back-requires-clause-there c =
    subst (λ (x : Item). x.to.0 < length c.args.self.now.queues.lists) (sym c.deref.ensures) (c.requires.1.known c.args.item c.requires.2.0)

pub back-requires-clause-out : goal.back-requires-clause-out
back-requires-clause-out c =
    subst (λ (x : Item). IsOutAs (mark_of c.args.item) (list_at c.args.self.now.queues.lists x.to.0)) (sym c.deref.ensures)
    (marked c.args.self.now c.requires.0 c.args.item c.requires.1 c.requires.2)

pub returns-clause-holds : goal.returns-clause-holds
returns-clause-holds c = λ a H o.
    let some = some_out c.args.self.now a c.args.item H o in
    let lists : c.back.new.self.lists ≡ set c.args.self.now.queues.lists c.args.item.to.0 (map (put_back c.args.item) (list_at c.args.self.now.queues.lists c.args.item.to.0)) =
    subst (λ (x : Item). c.back.new.self.lists ≡ set c.args.self.now.queues.lists x.to.0 (map (put_back c.args.item) (list_at c.args.self.now.queues.lists x.to.0))) c.deref.ensures c.back.ensures.lists in
    back_held c.args.self.now _ a c.args.item H o lists refl (omega arith)
