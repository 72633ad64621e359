use Rattle.std.proofs.Common.{subst, sym}
use Rattle.std.specs.Prelude.{filter}
use Rattle.ng_machine.specs.World.{item_id}
use Rattle.ng_queue.specs.Queue.{is_other, IsBelow}
use Rattle.ng_queue.proofs.QueuesLemmas.{is_there, lists_put, ready_put, spares_kept, below_put, below_found, below_others, ready_low, least_there}
use Rattle.ng_queue.proofs.queues.Queues.dequeue.Goals as goal

pub invariant_of-self : goal.invariant_of-self
invariant_of-self c =
    let lt = is_there c.self.inside.queues.items c.args.self.now c.args.at c.self.view_is (least_there c.args.self.now.lists c.args.at c.requires) in
    record {
      ready = ready_put c.self.inside.queues.items c.args.at c.dequeue-item.new.self c.index.result.now c.self.inside.ready c.put.new.self c.ready.result lt c.self.invariant.ready c.put.ensures c.ready.ensures c.index.ensures;
      below = below_put c.self.inside.queues.items c.args.at c.dequeue-item.new.self (item_id 18446744073709551615) lt (subst (IsBelow (item_id 18446744073709551615)) (sym c.dequeue-item.ensures.entries) (below_others (item_id 18446744073709551615) c.dequeue-item.result.id c.index_mut.result.now.entries (below_found c.self.inside.queues.items c.args.at c.index_mut.result.now (item_id 18446744073709551615) lt c.index_mut.ensures.value c.self.invariant.below))) c.self.invariant.below;
    }

pub returns-clause-lists : goal.returns-clause-lists
returns-clause-lists c = lists_put c.self.inside.queues.items c.args.self.now c.args.at c.index_mut.result.now c.dequeue-item.new.self (filter (is_other c.dequeue-item.result.id)) c.self.view_is
    (is_there c.self.inside.queues.items c.args.self.now c.args.at c.self.view_is (least_there c.args.self.now.lists c.args.at c.requires)) c.index_mut.ensures.value c.dequeue-item.ensures.entries

pub put-requires-clause-id : goal.put-requires-clause-id
put-requires-clause-id c =
    let lt = is_there c.self.inside.queues.items c.args.self.now c.args.at c.self.view_is (least_there c.args.self.now.lists c.args.at c.requires) in
    ready_low c.self.inside.queues.items c.args.at c.dequeue-item.new.self c.index.result.now c.ready.result lt (subst (IsBelow (item_id 18446744073709551615)) (sym c.dequeue-item.ensures.entries) (below_others (item_id 18446744073709551615) c.dequeue-item.result.id c.index_mut.result.now.entries (below_found c.self.inside.queues.items c.args.at c.index_mut.result.now (item_id 18446744073709551615) lt c.index_mut.ensures.value c.self.invariant.below))) c.ready.ensures c.index.ensures

pub returns-clause-spares : goal.returns-clause-spares
returns-clause-spares c = spares_kept c.self.inside.queues.items c.args.self.now c.args.at c.index_mut.result.now c.dequeue-item.new.self c.self.view_is
    (is_there c.self.inside.queues.items c.args.self.now c.args.at c.self.view_is (least_there c.args.self.now.lists c.args.at c.requires)) c.index_mut.ensures.value c.dequeue-item.ensures.spare
