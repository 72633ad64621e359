use Rattle.std.proofs.Common.{◌≡◌, ◌∙◌, ℕ, ◌+◌, List, length, sym, ap, subst, arith, rules}
use Rattle.std.specs.Prelude.{reverse}
use Rattle.ng_machine.specs.declared.body.Exit.{Exit}
use Rattle.ng_machine.specs.Change.{change_all, leave}
use Rattle.ng_machine.specs.Effect.{exits}
use Rattle.ng_queue.specs.pending.Holds.{in_world}
use Rattle.ng_queue.specs.tally.Tally.{HasNumbers}
use Rattle.ng_core_state.specs.service.Leaving.{AllMayLeaveBy, name_or_empty}
use Rattle.ng_core_state.specs.service.Room.{HasRoomToLeave}
use Rattle.ng_queue.proofs.tally.NumberLemmas.{fewer_numbers}
use Rattle.ng_core_state.proofs.service.Sending.{popped_first}
use Rattle.ng_core_state.proofs.service.leaving.leave_all.Goals as goal

pub leave-requires-clause-numbers : goal.leave-requires-clause-numbers
leave-requires-clause-numbers g c κs within =
    let next = popped_first c.loop-exit.backwards.items c.pop.new.self.items (c.in-Some.exit, c.in-Some.packet) c.in-Some.ensures.items in
    fewer_numbers 1 (length (reverse c.loop-exit.backwards.items)) c.loop-exit.state.pending.tally (let e = ap (λ (l : List (Exit × List ℕ)). length l) next in omega arith)
    (subst (λ (k : ℕ). HasNumbers k c.loop-exit.state.pending.tally) (let f : 0 + length (reverse c.loop-exit.backwards.items) ≡ length (reverse c.loop-exit.backwards.items) = omega arith in f)
    (c.loop-exit.invariant.numbers 0 (subst (λ (k : ℕ). HasNumbers k c.args.state.now.pending.tally) (let e : length c.args.leaves.now ≡ 0 + length c.args.leaves.now = omega arith in e) c.requires.numbers)))

pub loop-exit-preserved : goal.loop-exit-preserved
loop-exit-preserved g c =
    let next = popped_first c.loop-exit.backwards.items c.pop.new.self.items (c.in-Some.exit, c.in-Some.packet) c.in-Some.ensures.items in
    let more : length (reverse c.loop-exit.backwards.items) ≡ length (reverse c.pop.new.self.items) + 1 = ap (λ (l : List (Exit × List ℕ)). length l) next ∙ (omega arith) in
    record {
      may = (subst (AllMayLeaveBy c.args.hook.now) next c.loop-exit.invariant.may).1;
      room = c.leave.ensures.room (length (reverse c.pop.new.self.items)) (subst (λ (k : ℕ). HasRoomToLeave c.args.at k c.loop-exit.state) more c.loop-exit.invariant.room);
      numbers = λ k H. c.leave.ensures.numbers (k + length (reverse c.pop.new.self.items))
          (subst (λ (j : ℕ). HasNumbers j c.loop-exit.state.pending.tally) (let e : k + length (reverse c.loop-exit.backwards.items) ≡ k + length (reverse c.pop.new.self.items) + 1 = omega arith in e) (c.loop-exit.invariant.numbers k H));
      graph = c.leave.ensures.graph ∙ c.loop-exit.invariant.graph;
      frames = c.leave.ensures.frames ∙ c.loop-exit.invariant.frames;
      queues = c.leave.ensures.queues ∙ c.loop-exit.invariant.queues;
      stands = λ a S.
          let r = c.loop-exit.invariant.stands a S in (
            leave r.0 c.args.at c.args.stamp c.in-Some.exit (name_or_empty c.args.hook.now) c.in-Some.packet,
            c.leave.ensures.stands (in_world a r.0) r.1,
            ap (λ (l : List (Exit × List ℕ)). change_all c.args.at c.args.stamp r.0 (exits (name_or_empty c.args.hook.now) l)) (sym next) ∙ r.2,
          );
    }

pub returns-clause-numbers : goal.returns-clause-numbers
returns-clause-numbers g c = λ k H.
    let none : length (reverse c.loop-exit.backwards.items) ≡ 0 = search rules in
    subst (λ (j : ℕ). HasNumbers j c.loop-exit.state.pending.tally) (let e : k + length (reverse c.loop-exit.backwards.items) ≡ k = omega arith in e) (c.loop-exit.invariant.numbers k H)
