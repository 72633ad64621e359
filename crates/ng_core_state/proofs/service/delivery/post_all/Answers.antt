use Rattle.std.proofs.Common.{◌∙◌, ℕ, List, length, sym, ap, subst, arith}
use Rattle.std.specs.Prelude.{reverse}
use Rattle.ng_machine.specs.Change.{change_all, post}
use Rattle.ng_machine.specs.Effect.{posts}
use Rattle.ng_queue.specs.pending.Holds.{in_world}
use Rattle.ng_queue.specs.tally.Tally.{HasNumbers}
use Rattle.ng_core_state.proofs.service.Fronts.{front_next, front_room}
use Rattle.ng_queue.proofs.tally.NumberLemmas.{fewer_numbers}
use Rattle.ng_core_state.proofs.service.Sending.{popped_first}
use Rattle.ng_core_state.proofs.service.delivery.post_all.Goals as goal

pub post-requires-clause-room : goal.post-requires-clause-room
post-requires-clause-room g c κs within =
    front_room c.loop-send.state.graph c.args.from c.in-Some.send.0 c.in-Some.send.1 (reverse c.loop-send.backwards.items) (reverse c.pop.new.self.items) c.loop-send.state.pending
    (popped_first c.loop-send.backwards.items c.pop.new.self.items c.in-Some.send c.in-Some.ensures.items) c.loop-send.invariant.room

pub post-requires-clause-numbers : goal.post-requires-clause-numbers
post-requires-clause-numbers g c κs within =
    let next = popped_first c.loop-send.backwards.items c.pop.new.self.items c.in-Some.send c.in-Some.ensures.items in
    fewer_numbers 1 (length (reverse c.loop-send.backwards.items)) c.loop-send.state.pending.tally (let e = ap (λ (l : List (List ℕ × List ℕ)). length l) next in omega arith) c.loop-send.invariant.numbers

pub loop-send-preserved : goal.loop-send-preserved
loop-send-preserved g c =
    let next = popped_first c.loop-send.backwards.items c.pop.new.self.items c.in-Some.send c.in-Some.ensures.items in
    record {
      standing = (in_world c.loop-send.invariant.standing.0 (post c.loop-send.invariant.standing.0.world c.args.from c.in-Some.send.0 c.in-Some.send.1 c.args.stamp), c.post.ensures.stands c.loop-send.invariant.standing.0 c.loop-send.invariant.standing.1);
      graph = c.post.ensures.graph ∙ c.loop-send.invariant.graph;
      room = front_next c.loop-send.state.graph c.post.new.self.graph c.args.from c.in-Some.send.0 c.in-Some.send.1 (reverse c.loop-send.backwards.items) (reverse c.pop.new.self.items) c.loop-send.state.pending c.post.new.self.pending
          c.post.ensures.graph next c.post.ensures.spares c.post.ensures.lists c.post.ensures.frames c.loop-send.invariant.room;
      numbers = c.post.ensures.numbers (length (reverse c.pop.new.self.items))
          (subst (λ (k : ℕ). HasNumbers k c.loop-send.state.pending.tally) (ap (λ (l : List (List ℕ × List ℕ)). length l) next ∙ (omega arith)) c.loop-send.invariant.numbers);
      stands = λ a S.
          let r = c.loop-send.invariant.stands a S in (
            post r.0 c.args.from c.in-Some.send.0 c.in-Some.send.1 c.args.stamp,
            c.post.ensures.stands (in_world a r.0) r.1,
            ap (λ (l : List (List ℕ × List ℕ)). change_all c.args.from c.args.stamp r.0 (posts l)) (sym next) ∙ r.2,
          );
    }
