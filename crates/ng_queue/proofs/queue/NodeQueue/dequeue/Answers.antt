-- The head is gone, and what is behind it stays as it was.
use Rattle.std.proofs.Common.{◌≡◌, ◌-◌, ◌∙◌, ap, drop, subst, sym, arith}
use Rattle.std.proofs.lemmas.Grind.{common_steps}
use Rattle.std.specs.Prelude.{List, filter}
use Rattle.ng_queue.specs.declared.entry.Entry.{Entry}
use Rattle.ng_queue.specs.Queue.{is_other, Ascends, AllWait, Queue}
use Rattle.ng_queue.proofs.OrderLemmas.{removes_head, ascends_removed, waits_removed, waits_without}
use Rattle.ng_queue.proofs.queue.NodeQueue.dequeue.Goals as goal
use Rattle.ng_queue.proofs.queue.NodeQueue.dequeue.Goals.{After-remove_head-item}

ascends : (c : After-remove_head-item) → Ascends 0 c.remove_head-item.new.entries.items
ascends c = subst (Ascends 0) (sym c.remove_head-item.ensures.items) (ascends_removed 0 c.self.inside.entries.items c.first_waiting-at.result c.self.invariant.ascends)

entries : (c : After-remove_head-item) → c.remove_head-item.new.entries.items ≡ filter (is_other c.remove_head-item.result.id) c.args.self.now.entries
entries c =
    c.remove_head-item.ensures.items
    ∙ removes_head 0 c.self.inside.entries.items c.first_waiting-at.result c.remove_head-item.result c.self.invariant.ascends c.first_waiting-at.ensures c.remove_head-item.ensures.item
    ∙ ap (λ (q : Queue). filter (is_other c.remove_head-item.result.id) q.entries) c.self.view_is

pub invariant_of-self : goal.invariant_of-self
invariant_of-self c =
    let K = c.self.invariant in
    record {
      ascends = ascends (goal.at.invariant_of-self c).After-remove_head-item;
      reach = grind (arith, common_steps);
      waits = subst (λ (l : List Entry). AllWait (drop (c.self.inside.reach - 1) l)) (sym c.remove_head-item.ensures.items)
          (waits_removed c.self.inside.entries.items c.first_waiting-at.result c.self.inside.reach (c.self.inside.reach - 1) (grind (arith, common_steps)) (grind (arith, common_steps)) K.waits);
      room = grind (arith, common_steps);
      purge_empty = K.purge_empty;
      purge_room = grind (arith, common_steps);
      slots = K.slots;
    }

pub invariant_of-self-else-at-self : goal.invariant_of-self-else-at-self
invariant_of-self-else-at-self c =
    let K = c.self.invariant in
    record {
      ascends = ascends (goal.at.invariant_of-self-else-at-self c).After-remove_head-item;
      reach = grind (arith, common_steps);
      waits = subst (λ (l : List Entry). AllWait (drop c.self.inside.reach l)) (sym c.remove_head-item.ensures.items)
          (waits_without c.self.inside.entries.items c.first_waiting-at.result c.self.inside.reach (grind (arith, common_steps)) K.waits);
      room = grind (arith, common_steps);
      purge_empty = K.purge_empty;
      purge_room = grind (arith, common_steps);
      slots = K.slots;
    }

pub returns-then-at-self-clause-entries : goal.returns-then-at-self-clause-entries
returns-then-at-self-clause-entries c = entries (goal.at.returns-then-at-self-clause-entries c).After-remove_head-item

pub returns-else-at-self-clause-entries : goal.returns-else-at-self-clause-entries
returns-else-at-self-clause-entries c = entries (goal.at.returns-else-at-self-clause-entries c).After-remove_head-item
