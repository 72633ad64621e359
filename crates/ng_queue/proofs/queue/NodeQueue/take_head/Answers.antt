-- Nothing holds the head back, so it may be taken, and then it can be put back.
use Rattle.std.proofs.Common.{◌≡◌, ◌<◌, ◌∙◌, ap, map, drop, length, subst, sym, arith}
use Rattle.std.proofs.lemmas.Grind.{common_steps}
use Rattle.std.specs.Prelude.{List, None}
use Rattle.ng_queue.specs.declared.entry.Entry.{Entry}
use Rattle.ng_queue.specs.declared.entry.Entry.TheVariants.{Out}
use Rattle.ng_queue.specs.Queue.{hold_of, mark_of, take_out, Ascends, AllWait, IsOutAs, Queue}
use Rattle.ng_queue.proofs.OrderLemmas.{out_head, out_id, take_out_head, ascends_take_out, head_within, waits_set}
use Rattle.ng_queue.proofs.TakeableLemmas.{free_takeable}
use Rattle.ng_queue.proofs.queue.NodeQueue.take_head.Goals as goal

pub invariant_of-self : goal.invariant_of-self
invariant_of-self c =
    let es = c.self.inside.entries.items in
    let K = c.self.invariant in
    let within : c.first_waiting-at.result < length es = head_within es c.first_waiting-at.result c.take_at-item.result c.first_waiting-at.ensures c.take_at-item.ensures.item in
    record {
      ascends = subst (Ascends 0) (sym c.take_at-item.ensures.items) (ascends_take_out 0 es c.first_waiting-at.result c.take_at-item.result K.ascends c.first_waiting-at.ensures c.take_at-item.ensures.item);
      reach = grind (arith, common_steps);
      waits = subst (λ (l : List Entry). AllWait (drop c.max-self-inside.result l)) (sym c.take_at-item.ensures.items) (waits_set c.self.inside.reach c.max-self-inside.result c.first_waiting-at.result es (Out (mark_of c.take_at-item.result)) K.waits (grind (arith, common_steps)) (grind (arith, common_steps)));
      room = grind (arith, common_steps);
      purge_empty = K.purge_empty;
      purge_room = grind (arith, common_steps);
      slots = K.slots;
    }

pub returns-clause-takeable : goal.returns-clause-takeable
returns-clause-takeable c =
    let free : hold_of c.self.inside.entries.items ≡ None = ap (λ (q : Queue). hold_of q.entries) c.self.view_is ∙ c.requires in
    let takeable = free_takeable c.self.inside.entries.items c.take_at-item.result c.take_at-item.ensures.item free in
    rw (← c.self.view_is) takeable

pub returns-clause-entries : goal.returns-clause-entries
returns-clause-entries c =
    c.take_at-item.ensures.items
    ∙ take_out_head 0 c.self.inside.entries.items c.first_waiting-at.result c.take_at-item.result c.self.invariant.ascends c.first_waiting-at.ensures c.take_at-item.ensures.item
    ∙ ap (λ (q : Queue). map (take_out c.take_at-item.result.id) q.entries) c.self.view_is

pub returns-clause-backs : goal.returns-clause-backs
returns-clause-backs c =
    let items : c.take_at-item.new.entries.items ≡ map (take_out c.take_at-item.result.id) c.self.inside.entries.items =
    c.take_at-item.ensures.items
    ∙ take_out_head 0 c.self.inside.entries.items c.first_waiting-at.result c.take_at-item.result c.self.invariant.ascends c.first_waiting-at.ensures c.take_at-item.ensures.item in
    rw items (out_head 0 c.self.inside.entries.items c.take_at-item.result c.self.invariant.ascends c.take_at-item.ensures.item)

pub returns-clause-out : goal.returns-clause-out
returns-clause-out c =
    let items : c.take_at-item.new.entries.items ≡ map (take_out c.take_at-item.result.id) c.self.inside.entries.items =
    c.take_at-item.ensures.items
    ∙ take_out_head 0 c.self.inside.entries.items c.first_waiting-at.result c.take_at-item.result c.self.invariant.ascends c.first_waiting-at.ensures c.take_at-item.ensures.item in
    let backs : IsOutAs (mark_of c.take_at-item.result) c.take_at-item.new.entries.items = rw items (out_head 0 c.self.inside.entries.items c.take_at-item.result c.self.invariant.ascends c.take_at-item.ensures.item) in
    out_id c.take_at-item.result c.take_at-item.new.entries.items backs
