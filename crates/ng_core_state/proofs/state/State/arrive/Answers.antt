use Rattle.std.proofs.Common.{◌∙◌, ◌+◌, length, ap, arith}
use Rattle.ng_queue.specs.Queues.{QueueLists}
use Rattle.ng_queue.specs.pending.Holds.{in_world}
use Rattle.ng_core_state.proofs.FedPackets.{some_get, ports_fed}
use Rattle.ng_core_state.proofs.state.State.arrive.Goals as goal

pub returns-clause-stands : goal.returns-clause-stands
returns-clause-stands g c = λ a S.
    let kept = some_get c.args.self.now.ports.items c.args.port c.requires.port in
    record {
      items = c.pass_time.ensures.holds (in_world a (record a.world { fed = a.world.fed + 1 })) (c.feed.ensures.holds a S.items);
      there = S.there;
      graph = record { nodes = S.graph.nodes; stock = S.graph.stock; next_link = S.graph.next_link };
      homes = S.homes;
      lent = S.lent;
      places = let e = ap (λ (q : QueueLists). length q.lists) (c.pass_time.ensures.queues ∙ c.feed.ensures.queues) in let le = S.places in omega arith;
      told = S.told;
      ports = ports_fed c.args.self.now.ports.items c.feed_at.new.ports.items a.world.ports c.args.port kept.0 kept.1 S.ports (c.feed_at.ensures kept.0 kept.1);
    }

pub returns-clause-numbers : goal.returns-clause-numbers
returns-clause-numbers g c = λ k N. c.pass_time.ensures.numbers k (c.feed.ensures.numbers k N)
