use Rattle.std.proofs.Common.{ap, sym, ◌∙◌, map, subst, List}
use Rattle.ng_machine.specs.World.{item_id}
use Rattle.ng_queue.specs.declared.entry.Entry.{Entry}
use Rattle.ng_queue.specs.Queue.{IsBelow}
use Rattle.ng_queue.specs.Queues.{QueueLists, list_at, ready_of}
use Rattle.ng_queue.proofs.QueuesLemmas.{is_there, lists_same, spares_narrowed}
use Rattle.ng_queue.proofs.queues.Queues.narrow.Goals as goal

pub invariant_of-self : goal.invariant_of-self
invariant_of-self c =
    let lt = is_there c.self.inside.queues.items c.args.self.now c.args.at c.self.view_is c.requires in
    let same = lists_same c.self.inside.queues.items c.args.at c.index_mut.result.now c.narrow.new.self lt c.index_mut.ensures.value c.narrow.ensures.entries in
    record {
      ready = c.self.invariant.ready ∙ ap (λ (l : List (List Entry)). map ready_of l) (sym same);
      below = λ n. subst (λ (l : List (List Entry)). IsBelow (item_id 18446744073709551615) (list_at l n)) (sym same) (c.self.invariant.below n);
    }

pub returns-clause-lists : goal.returns-clause-lists
returns-clause-lists c =
    let lt = is_there c.self.inside.queues.items c.args.self.now c.args.at c.self.view_is c.requires in
    lists_same c.self.inside.queues.items c.args.at c.index_mut.result.now c.narrow.new.self lt c.index_mut.ensures.value c.narrow.ensures.entries ∙ ap (λ (v : QueueLists). v.lists) c.self.view_is

pub returns-clause-spares : goal.returns-clause-spares
returns-clause-spares c = spares_narrowed c.self.inside.queues.items c.args.self.now c.args.at c.index_mut.result.now c.narrow.new.self c.self.view_is
    (is_there c.self.inside.queues.items c.args.self.now c.args.at c.self.view_is c.requires) c.index_mut.ensures.value c.narrow.ensures.spare
