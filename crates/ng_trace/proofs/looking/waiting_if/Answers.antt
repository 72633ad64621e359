use Rattle.std.proofs.Common.{◌∙◌, ap, List, ◌++◌}
use Rattle.ng_trace.specs.declared.ending.Spot.{Spot}
use Rattle.ng_trace.specs.Endings.{spots}
use Rattle.ng_queue.specs.Queue.{waiting_items}
use Rattle.ng_queue.specs.Queues.{list_at}
use Rattle.ng_trace.proofs.Waiting.{waiting_is, waiting_none}
use Rattle.ng_trace.proofs.looking.waiting_if.Goals as goal

pub returns-then-not-may_retire : goal.returns-then-not-may_retire
returns-then-not-may_retire g c =
    waiting_none c.args.state.now c.new-waiting.result.items c.args.item.now.body c.args.item.now.to c.may_retire.result c.may_retire.ensures c.if-not-may_retire.true c.new-waiting.ensures.items

pub returns : goal.returns
returns g c = waiting_is c.args.state.now c.push_waiting.new.out.items c.args.item.now.body c.args.item.now.to c.may_retire.result c.may_retire.ensures c.if-not-may_retire.false
    (c.in_ok-push_waiting.ensures ∙ ap (λ (l : List Spot). l ++ spots c.args.state.now.graph.nodes (waiting_items (list_at c.args.state.now.pending.queues.lists c.args.item.now.to.0))) c.new-waiting.ensures.items)
