use Rattle.std.proofs.Common.{ℕ, ◌+◌, ◌≤◌, ap, sym, ◌∙◌, map, set, subst, List}
use Rattle.std.specs.Prelude.{OnOk}
use Rattle.ng_machine.specs.World.{item_id}
use Rattle.ng_queue.specs.declared.entry.Entry.{Entry}
use Rattle.ng_queue.specs.Queue.{IsBelow}
use Rattle.ng_queue.specs.Queues.{QueueLists, list_at, spare_at, ready_of, spare_of}
use Rattle.ng_queue.proofs.QueuesLemmas.{is_there, lists_same, spare_set, spare_now, spares_more}
use Rattle.ng_queue.proofs.queues.Queues.widen.Goals as goal

pub invariant_of-self : goal.invariant_of-self
invariant_of-self c =
    let lt = is_there c.self.inside.queues.items c.args.self.now c.args.at c.self.view_is c.requires in
    let same = lists_same c.self.inside.queues.items c.args.at c.index_mut.result.now c.widen.new.self lt c.index_mut.ensures.value c.widen.ensures.entries in
    record {
      ready = c.self.invariant.ready ∙ ap (λ (l : List (List Entry)). map ready_of l) (sym same);
      below = λ n. subst (λ (l : List (List Entry)). IsBelow (item_id 18446744073709551615) (list_at l n)) (sym same) (c.self.invariant.below n);
    }

pub returns-clause-lists : goal.returns-clause-lists
returns-clause-lists c =
    let lt = is_there c.self.inside.queues.items c.args.self.now c.args.at c.self.view_is c.requires in
    lists_same c.self.inside.queues.items c.args.at c.index_mut.result.now c.widen.new.self lt c.index_mut.ensures.value c.widen.ensures.entries ∙ ap (λ (v : QueueLists). v.lists) c.self.view_is

pub returns-clause-more : goal.returns-clause-more
returns-clause-more c k =
    let lt = is_there c.self.inside.queues.items c.args.self.now c.args.at c.self.view_is c.requires in
    subst (λ (v : QueueLists). spare_at v.spares k ≤ spare_at (map spare_of (set c.self.inside.queues.items c.args.at c.widen.new.self)) k) c.self.view_is
    (spares_more c.self.inside.queues.items c.args.at c.index_mut.result.now c.widen.new.self k lt c.index_mut.ensures.value c.widen.ensures.spare)

pub returns-clause-room : goal.returns-clause-room
returns-clause-room c =
    let lt = is_there c.self.inside.queues.items c.args.self.now c.args.at c.self.view_is c.requires in
    subst (λ (n : ℕ). OnOk c.widen.result (spare_at c.args.self.now.spares c.args.at + 1 ≤ n)) (sym (spare_set c.self.inside.queues.items c.args.at c.widen.new.self lt))
    (subst (λ (n : ℕ). OnOk c.widen.result (n + 1 ≤ c.widen.new.self.spare)) (sym (spare_now c.self.inside.queues.items c.args.self.now c.args.at c.index_mut.result.now c.self.view_is lt c.index_mut.ensures.value)) c.widen.ensures.room)
