use Rattle.std.proofs.Common.{◌≡◌, ℕ, suc, ◌+◌, List, take, sym, ap, ◌∙◌, subst, arith}
use Rattle.std.specs.declared.option.Option.{Option}
use Rattle.ng_machine.specs.Feed.{feed_tick, feed_ticks, is_bridge}
use Rattle.ng_machine.specs.World.{NodeRecord, World, node_id, node_in}
use Rattle.ng_queue.specs.pending.Holds.{in_world}
use Rattle.ng_queue.specs.tally.Tally.{HasNumbers}
use Rattle.ng_core_state.specs.Stands.{Stands}
use Rattle.ng_queue.proofs.tally.NumberLemmas.{fewer_numbers}
use Rattle.ng_core.proofs.intake.Ticks.{ticks_more, ticks_nodes}
use Rattle.ng_core.proofs.intake.ticking.tick_all.Goals as goal

pub loop-n-preserved : goal.loop-n-preserved
loop-n-preserved g c = record {
  stands = λ a S.
      let n = c.loop-n.n in
      let v : World = feed_ticks a.world c.args.seconds 0 (take n a.world.nodes) in
      let none : n ≡ 0 + n = omega arith in
      let T = c.tick_at.ensures.stands (in_world a v) (c.loop-n.invariant.stands a S) in
      let same : feed_tick v c.args.seconds n (is_bridge (node_in v.nodes (node_id n))) ≡ feed_ticks a.world c.args.seconds 0 (take (suc n) a.world.nodes) =
      ap (λ (l : List (Option NodeRecord)). feed_tick v c.args.seconds n (is_bridge (node_in l (node_id n)))) (ticks_nodes a.world c.args.seconds 0 (take n a.world.nodes))
      ∙ ap (λ (k : ℕ). feed_tick v c.args.seconds k (is_bridge (node_in a.world.nodes (node_id n)))) none
      ∙ sym (ticks_more a.world c.args.seconds 0 a.world.nodes n) in
      let next : suc n ≡ n + 1 = omega arith in
      subst (λ (k : ℕ). Stands c.tick_at.new.state (in_world a (feed_ticks a.world c.args.seconds 0 (take k a.world.nodes)))) next
      (subst (λ (w : World). Stands c.tick_at.new.state (in_world a w)) same T);
  graph = c.tick_at.ensures.graph ∙ c.loop-n.invariant.graph;
  room = λ k le is. let before = c.loop-n.invariant.room k (omega arith) is in let others = c.tick_at.ensures.others k (omega arith) in omega arith;
  numbers = λ k N. c.tick_at.ensures.numbers k (c.loop-n.invariant.numbers (k + 1) (subst (λ (i : ℕ). HasNumbers i c.args.state.now.pending.tally) (let e : k + (c.loop-n.n + 1) ≡ (k + 1) + c.loop-n.n = omega arith in e) N));
}

pub tick_at-requires-clause-numbers : goal.tick_at-requires-clause-numbers
tick_at-requires-clause-numbers g c κs within =
    let lt = c.loop-n-test.true in
    c.loop-n.invariant.numbers 1 (fewer_numbers (1 + c.loop-n.n) c.args.end c.args.state.now.pending.tally (omega arith) c.requires.numbers)
