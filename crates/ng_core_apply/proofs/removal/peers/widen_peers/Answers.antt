use Rattle.std.proofs.Common.{◌∙◌, ◌<◌, List, length, ap, arith}
use Rattle.std.proofs.lemmas.Grind.{common_steps}
use Rattle.ng_queue.specs.declared.entry.Entry.{Entry}
use Rattle.ng_queue.specs.Queues.{spare_at}
use Rattle.ng_core_apply.proofs.removal.AskedPeers.{peers_room, widened}
use Rattle.ng_core_apply.proofs.removal.peers.widen_peers.Goals as goal

pub loop-hook-preserved : goal.loop-hook-preserved
loop-hook-preserved g c = record {
  stands = λ a S. c.widen.ensures.stands a (c.loop-hook.invariant.stands a S);
  lists = c.widen.ensures.lists ∙ c.loop-hook.invariant.lists;
  tally = c.widen.ensures.tally ∙ c.loop-hook.invariant.tally;
  graph = c.widen.ensures.graph ∙ c.loop-hook.invariant.graph;
  told = c.widen.ensures.told ∙ c.loop-hook.invariant.told;
  room = λ m lt.
      let same = ap (λ (l : List (List Entry)). length l) c.loop-hook.invariant.lists in
      let inside : c.loop-hook.hook-index < length c.args.hooks.now = grind (arith, common_steps) in
      peers_room c.args.hooks.now c.loop-hook.hook-index m c.hook-item.result (spare_at c.args.state.now.pending.queues.spares m) (spare_at c.loop-hook.state.pending.queues.spares m)
      (spare_at c.widen.new.state.pending.queues.spares m) inside c.hook-item.is (c.loop-hook.invariant.room m lt)
      (widened m c.hook-item.result.peer.node.0 (length c.loop-hook.state.pending.queues.lists) c.loop-hook.state.pending.queues.spares c.widen.new.state.pending.queues.spares (omega arith) c.in_ok-widen.ensures.room c.widen.ensures.more);
}
