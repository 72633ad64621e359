use Rattle.std.proofs.Common.{◌∙◌, List, length, get_or, ap, sym, arith}
use Rattle.std.proofs.lemmas.Grind.{common_steps}
use Rattle.ng_queue.specs.declared.entry.Entry.{Entry}
use Rattle.ng_queue.specs.Queues.{list_at, spare_at}
use Rattle.ng_core_apply.proofs.removal.Rooms.{room_of}
use Rattle.ng_core_apply.proofs.removal.room.widen_entries.Goals as goal

pub loop-n-preserved : goal.loop-n-preserved
loop-n-preserved g c = record {
  stands = λ a S. c.widen_entry.ensures.stands a (c.loop-n.invariant.stands a S);
  lists = c.widen_entry.ensures.lists ∙ c.loop-n.invariant.lists;
  tally = c.widen_entry.ensures.tally ∙ c.loop-n.invariant.tally;
  graph = c.widen_entry.ensures.graph ∙ c.loop-n.invariant.graph;
  told = c.widen_entry.ensures.told ∙ c.loop-n.invariant.told;
  room = λ m lt. room_of (list_at c.args.state.now.pending.queues.lists c.args.at) c.loop-n.n m (spare_at c.args.state.now.pending.queues.spares m)
      (spare_at c.loop-n.state.pending.queues.spares m) (spare_at c.widen_entry.new.state.pending.queues.spares m)
      (let e = c.requires.count in grind (arith, common_steps)) (c.loop-n.invariant.room m lt)
      (λ e is. c.in_ok-widen_entry.ensures.room m e (is ∙ ap (λ (l : List (List Entry)). get_or (list_at l c.args.at) c.loop-n.n e) (sym c.loop-n.invariant.lists))
      (let same = ap (λ (l : List (List Entry)). length l) c.loop-n.invariant.lists in omega arith));
}
