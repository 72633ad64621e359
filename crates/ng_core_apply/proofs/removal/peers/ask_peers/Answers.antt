use Rattle.std.specs.Prelude.{◌==◌}
use Rattle.std.proofs.Common.{◌≡◌, ◌∙◌, ℕ, ◌+◌, List, ◌∷◌, length, sym, ap, subst, arith, rules}
use Rattle.ng_machine.specs.declared.hook.Hook.{Hook}
use Rattle.ng_machine.specs.Change.{change_all}
use Rattle.ng_machine.specs.Retire.{leave_step_to, leave_steps}
use Rattle.ng_machine.specs.World.{node_id, node_in}
use Rattle.ng_queue.specs.pending.Holds.{in_world}
use Rattle.ng_queue.specs.tally.Tally.{HasNumbers}
use Rattle.ng_queue.specs.tie.TieLaws.{one}
use Rattle.ng_topology.specs.Topology.{Topology}
use Rattle.ng_core_apply.specs.removal.Drops.{peers}
use Rattle.ng_core_apply.proofs.removal.Following.{change_both}
use Rattle.ng_queue.proofs.tally.NumberLemmas.{fewer_numbers}
use Rattle.ng_core_apply.proofs.removal.AskedPeers.{peers_one}
use Rattle.ng_core_apply.proofs.removal.peers.ask_peers.Goals as goal

pub ask-requires-clause-numbers : goal.ask-requires-clause-numbers
ask-requires-clause-numbers g c κs within =
    let next : length c.loop-hook.hook-iterator.rest.items ≡ length c.next.new.self.rest.items + 1 = search rules in
    fewer_numbers 1 (0 + length c.loop-hook.hook-iterator.rest.items) c.loop-hook.state.pending.tally (omega arith)
    (c.loop-hook.invariant.numbers 0 (subst (λ (k : ℕ). HasNumbers k c.args.state.now.pending.tally) (let e : length c.args.hooks.items ≡ 0 + length c.args.hooks.items = omega arith in e) c.requires.numbers))

pub loop-hook-preserved : goal.loop-hook-preserved
loop-hook-preserved g c =
    let next : c.loop-hook.hook-iterator.rest.items ≡ c.in-Some.hook ∷ c.next.new.self.rest.items = search rules in
    let more : length c.loop-hook.hook-iterator.rest.items ≡ length c.next.new.self.rest.items + 1 = ap (λ (l : List Hook). length l) next ∙ (omega arith) in
    record {
      standing =
          let W = c.loop-hook.invariant.standing in (
            in_world W.0 (change_all c.args.at c.args.stamp W.0.world (leave_step_to c.args.at c.in-Some.hook)),
            c.ask.ensures.stands W.0 W.1,
          );
      room = λ n node here.
          let r = c.loop-hook.invariant.room n node (ap (λ (t : Topology). node_in t.nodes (node_id n)) (sym c.ask.ensures.graph) ∙ here) in
          let e : peers c.loop-hook.hook-iterator.rest.items n ≡ one (n == c.in-Some.hook.peer.node.0) + peers c.next.new.self.rest.items n = ap (λ (l : List Hook). peers l n) next ∙ peers_one c.in-Some.hook c.next.new.self.rest.items n in
          let s = c.ask.ensures.spares n in
          omega arith;
      numbers = λ k H. c.ask.ensures.numbers (k + length c.next.new.self.rest.items)
          (subst (λ (j : ℕ). HasNumbers j c.loop-hook.state.pending.tally) (let e : k + length c.loop-hook.hook-iterator.rest.items ≡ k + length c.next.new.self.rest.items + 1 = omega arith in e) (c.loop-hook.invariant.numbers k H));
      graph = c.ask.ensures.graph ∙ c.loop-hook.invariant.graph;
      told = c.ask.ensures.told ∙ c.loop-hook.invariant.told;
      lists = c.ask.ensures.lists ∙ c.loop-hook.invariant.lists;
      spares = λ m.
          let r = c.loop-hook.invariant.spares m in
          let e : peers c.loop-hook.hook-iterator.rest.items m ≡ one (m == c.in-Some.hook.peer.node.0) + peers c.next.new.self.rest.items m = ap (λ (l : List Hook). peers l m) next ∙ peers_one c.in-Some.hook c.next.new.self.rest.items m in
          let s = c.ask.ensures.spares m in
          omega arith;
      stands = λ a S.
          let r = c.loop-hook.invariant.stands a S in (
            change_all c.args.at c.args.stamp r.0 (leave_step_to c.args.at c.in-Some.hook),
            c.ask.ensures.stands (in_world a r.0) r.1,
            sym (change_both c.args.at c.args.stamp r.0 (leave_step_to c.args.at c.in-Some.hook) (leave_steps c.args.at c.next.new.self.rest.items))
                ∙ ap (λ (l : List Hook). change_all c.args.at c.args.stamp r.0 (leave_steps c.args.at l)) (sym next) ∙ r.2,
          );
    }

pub returns-clause-numbers : goal.returns-clause-numbers
returns-clause-numbers g c = λ k H.
    let none : length c.loop-hook.hook-iterator.rest.items ≡ 0 = search rules in
    subst (λ (j : ℕ). HasNumbers j c.loop-hook.state.pending.tally) (let e : k + length c.loop-hook.hook-iterator.rest.items ≡ k = omega arith in e) (c.loop-hook.invariant.numbers k H)
