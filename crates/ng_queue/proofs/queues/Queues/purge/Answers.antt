use Rattle.std.proofs.Common.{◌∙◌, List, [], set, subst, sym, ap}
use Rattle.ng_machine.specs.World.{item_id}
use Rattle.ng_queue.specs.declared.entry.Entry.{Entry}
use Rattle.ng_queue.specs.Queue.{IsBelow, Queue}
use Rattle.ng_queue.specs.Queues.{list_of}
use Rattle.ng_queue.proofs.QueuesLemmas.{is_there, lists_put, ready_put, below_put, ready_low, spares_put}
use Rattle.ng_queue.proofs.queues.Queues.purge.Goals as goal

pub invariant_of-self : goal.invariant_of-self
invariant_of-self c =
    let lt = is_there c.self.inside.queues.items c.args.self.now c.args.at c.self.view_is c.requires.there in
    record {
      ready = ready_put c.self.inside.queues.items c.args.at c.purge-items.new.self c.index.result.now c.self.inside.ready c.put.new.self c.ready.result lt c.self.invariant.ready c.put.ensures c.ready.ensures c.index.ensures;
      below = below_put c.self.inside.queues.items c.args.at c.purge-items.new.self (item_id 18446744073709551615) lt (subst (IsBelow (item_id 18446744073709551615)) (sym (ap list_of c.purge-items.ensures.queue)) tt) c.self.invariant.below;
    }

pub returns-clause-lists : goal.returns-clause-lists
returns-clause-lists c = lists_put c.self.inside.queues.items c.args.self.now c.args.at c.index_mut.result.now c.purge-items.new.self (λ (es : List Entry). []) c.self.view_is
    (is_there c.self.inside.queues.items c.args.self.now c.args.at c.self.view_is c.requires.there) c.index_mut.ensures.value (ap list_of c.purge-items.ensures.queue)

pub put-requires-clause-id : goal.put-requires-clause-id
put-requires-clause-id c =
    let lt = is_there c.self.inside.queues.items c.args.self.now c.args.at c.self.view_is c.requires.there in
    ready_low c.self.inside.queues.items c.args.at c.purge-items.new.self c.index.result.now c.ready.result lt (subst (IsBelow (item_id 18446744073709551615)) (sym (ap list_of c.purge-items.ensures.queue)) tt) c.ready.ensures c.index.ensures

pub returns-clause-spares : goal.returns-clause-spares
returns-clause-spares c = spares_put c.self.inside.queues.items c.args.self.now c.args.at c.purge-items.new.self c.self.view_is
    ∙ ap (λ (q : Queue). set c.args.self.now.spares c.args.at q.spare) c.purge-items.ensures.queue
