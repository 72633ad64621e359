use Rattle.std.proofs.Common.{◌≡◌, ◌∙◌, ℕ, ◌+◌, List, ◌++◌, length, sym, ap, subst, arith}
use Rattle.ng_machine.specs.World.{World}
use Rattle.ng_machine.specs.Change.{change_all}
use Rattle.ng_machine.specs.Effect.{counts_unless, exits, is_fine, posts}
use Rattle.ng_machine.specs.Run.{RunState}
use Rattle.ng_queue.specs.pending.Holds.{in_world}
use Rattle.ng_queue.specs.declared.queues.Queues.{Queues}
use Rattle.ng_queue.specs.tally.Tally.{HasNumbers}
use Rattle.ng_core_state.specs.Stands.{Stands}
use Rattle.ng_core_state.specs.service.Followers.{followed_by, one_at, target_by}
use Rattle.ng_core_state.specs.service.Front.{HasFront}
use Rattle.ng_core_state.specs.service.Leaving.{arrival_hook, name_or_empty}
use Rattle.ng_core_state.proofs.service.Changes.{change_both}
use Rattle.ng_core_state.proofs.service.Fronts.{front_beside, front_spent, front_stays}
use Rattle.ng_queue.proofs.tally.NumberLemmas.{fewer_numbers}
use Rattle.ng_core_state.proofs.service.delivery.deliver.Goals as goal
use Rattle.ng_core_state.proofs.service.delivery.deliver.Goals.{After-leave_any, After-count_refused}

numbers_left : (g : _) (c : After-leave_any g) → HasNumbers (length c.args.outcome.now.sends + 2) c.leave_any.new.state.pending.tally
numbers_left g c = c.leave_any.ensures.numbers (length c.args.outcome.now.sends + 2)
    (subst (λ (k : ℕ). HasNumbers k c.args.state.now.pending.tally) (let e : length c.args.outcome.now.leaves + (length c.args.outcome.now.sends + 2) ≡ length c.args.outcome.now.sends + 2 + length c.args.outcome.now.leaves = omega arith in e) c.requires.numbers)

-- after packets left and a refusal was counted

numbers_counted : (g : _) (c : After-count_refused g) → HasNumbers (length c.args.outcome.now.sends + 1) c.count_refused.new.self.pending.tally
numbers_counted g c = c.count_refused.ensures.numbers (length c.args.outcome.now.sends + 1)
    (fewer_numbers (length c.args.outcome.now.sends + 1 + 1) (length c.args.outcome.now.sends + 2) c.leave_any.new.state.pending.tally (omega arith) (c.leave_any.ensures.numbers (length c.args.outcome.now.sends + 2)
    (subst (λ (k : ℕ). HasNumbers k c.args.state.now.pending.tally) (let e : length c.args.outcome.now.leaves + (length c.args.outcome.now.sends + 2) ≡ length c.args.outcome.now.sends + 2 + length c.args.outcome.now.leaves = omega arith in e) c.requires.numbers)))

stands_counted : (g : _) (c : After-count_refused g) (a : RunState) → Stands c.args.state.now a
    → Stands c.count_refused.new.self (in_world a (change_all c.args.item.now.to c.args.item.now.stamp (change_all c.args.item.now.to c.args.item.now.stamp a.world (exits (name_or_empty (arrival_hook c.args.item.now.body)) c.args.outcome.now.leaves)) (counts_unless (is_fine c.args.outcome.now.errno))))
stands_counted g c a S =
    c.count_refused.ensures.stands (in_world a (change_all c.args.item.now.to c.args.item.now.stamp a.world (exits (name_or_empty (arrival_hook c.args.item.now.body)) c.args.outcome.now.leaves))) c.args.item.now.to c.args.item.now.stamp (c.leave_any.ensures.stands a S)

-- the room that was made is there still
front_counted : (g : _) (c : After-count_refused g) → HasFront 0 c.count_refused.new.self.graph c.args.item.now.to (one_at (target_by c.args.item.now.to c.args.item.now.body c.args.outcome.now.learn c.args.outcome.now.answer)) c.args.outcome.now.sends c.count_refused.new.self.pending
front_counted g c =
    let queues = c.count_refused.ensures.queues ∙ c.leave_any.ensures.queues in
    let first = c.leave_any.ensures.frames in
    let second = c.count_refused.ensures.frames in
    front_stays 0 0 c.args.state.now.graph c.count_refused.new.self.graph c.args.item.now.to (one_at (target_by c.args.item.now.to c.args.item.now.body c.args.outcome.now.learn c.args.outcome.now.answer)) c.args.outcome.now.sends c.args.state.now.pending c.count_refused.new.self.pending
    (c.count_refused.ensures.graph ∙ c.leave_any.ensures.graph) (ap (λ (q : Queues). q.spares) queues) (ap (λ (q : Queues). length q.lists) queues) (omega arith) c.requires.room

pub count_refused-requires-after_bounds : goal.count_refused-requires-after_bounds
count_refused-requires-after_bounds g c κs within =
    fewer_numbers 1 (length c.args.outcome.now.sends + 2) c.leave_any.new.state.pending.tally (omega arith) (numbers_left g (goal.at.count_refused-requires-after_bounds g c).After-leave_any)

pub follow_item-requires-clause-standing : goal.follow_item-requires-clause-standing
follow_item-requires-clause-standing g c κs within =
    let at = (goal.at.follow_item-requires-clause-standing g c).After-count_refused in (
      in_world c.requires.standing.0 (change_all c.args.item.now.to c.args.item.now.stamp (change_all c.args.item.now.to c.args.item.now.stamp c.requires.standing.0.world (exits (name_or_empty (arrival_hook c.args.item.now.body)) c.args.outcome.now.leaves)) (counts_unless (is_fine c.args.outcome.now.errno))),
      stands_counted g at c.requires.standing.0 c.requires.standing.1,
    )

pub follow_item-requires-clause-numbers : goal.follow_item-requires-clause-numbers
follow_item-requires-clause-numbers g c κs within =
    fewer_numbers 1 (length c.args.outcome.now.sends + 1) c.count_refused.new.self.pending.tally (omega arith) (numbers_counted g (goal.at.follow_item-requires-clause-numbers g c).After-count_refused)

pub follow_item-requires-clause-room : goal.follow_item-requires-clause-room
follow_item-requires-clause-room g c κs within =
    front_beside c.count_refused.new.self.graph c.args.item.now.to (one_at (target_by c.args.item.now.to c.args.item.now.body c.args.outcome.now.learn c.args.outcome.now.answer)) c.args.outcome.now.sends c.count_refused.new.self.pending (front_counted g (goal.at.follow_item-requires-clause-room g c).After-count_refused)

pub post_all-requires-clause-room : goal.post_all-requires-clause-room
post_all-requires-clause-room g c κs within =
    subst (λ (l : List (List ℕ × List ℕ)). HasFront 0 c.follow_item.new.state.graph c.args.item.now.to (λ n. 0) l c.follow_item.new.state.pending) (sym c.follow_item.ensures.sends)
    (front_spent c.count_refused.new.self.graph c.follow_item.new.state.graph c.args.item.now.to (one_at (target_by c.args.item.now.to c.args.item.now.body c.args.outcome.now.learn c.args.outcome.now.answer)) c.args.outcome.now.sends c.count_refused.new.self.pending c.follow_item.new.state.pending c.follow_item.ensures.graph
    c.follow_item.ensures.spares c.follow_item.ensures.lists c.follow_item.ensures.frames (front_counted g (goal.at.post_all-requires-clause-room g c).After-count_refused))

pub post_all-requires-clause-standing : goal.post_all-requires-clause-standing
post_all-requires-clause-standing g c κs within =
    let at = (goal.at.post_all-requires-clause-standing g c).After-count_refused in
    let b = in_world c.requires.standing.0 (change_all c.args.item.now.to c.args.item.now.stamp (change_all c.args.item.now.to c.args.item.now.stamp c.requires.standing.0.world (exits (name_or_empty (arrival_hook c.args.item.now.body)) c.args.outcome.now.leaves)) (counts_unless (is_fine c.args.outcome.now.errno))) in
    (in_world b (change_all c.args.item.now.to c.args.item.now.stamp b.world (followed_by c.args.item.now c.args.item.now.body c.args.outcome.now.learn c.args.outcome.now.answer)), c.follow_item.ensures.stands b c.args.item.now.to (stands_counted g at c.requires.standing.0 c.requires.standing.1))

pub post_all-requires-clause-numbers : goal.post_all-requires-clause-numbers
post_all-requires-clause-numbers g c κs within =
    subst (λ (l : List (List ℕ × List ℕ)). HasNumbers (length l) c.follow_item.new.state.pending.tally) (sym c.follow_item.ensures.sends)
    (c.follow_item.ensures.numbers (length c.args.outcome.now.sends) (numbers_counted g (goal.at.post_all-requires-clause-numbers g c).After-count_refused))

pub returns : goal.returns
returns g c = λ a S.
    let at = (goal.at.returns g c).After-count_refused in
    let w = change_all c.args.item.now.to c.args.item.now.stamp a.world (exits (name_or_empty (arrival_hook c.args.item.now.body)) c.args.outcome.now.leaves) in
    let v = change_all c.args.item.now.to c.args.item.now.stamp w (counts_unless (is_fine c.args.outcome.now.errno)) in
    let u = change_all c.args.item.now.to c.args.item.now.stamp v (followed_by c.args.item.now c.args.item.now.body c.args.outcome.now.learn c.args.outcome.now.answer) in
    let all = subst (λ (l : List (List ℕ × List ℕ)). Stands c.post_all.new.state (in_world a (change_all c.args.item.now.to c.args.item.now.stamp u (posts l)))) c.follow_item.ensures.sends
    (c.post_all.ensures (in_world a u) (c.follow_item.ensures.stands (in_world a v) c.args.item.now.to (stands_counted g at a S))) in
    subst (λ (x : World). Stands c.post_all.new.state (in_world a x))
    (sym (change_both c.args.item.now.to c.args.item.now.stamp a.world (exits (name_or_empty (arrival_hook c.args.item.now.body)) c.args.outcome.now.leaves) (counts_unless (is_fine c.args.outcome.now.errno) ++ (followed_by c.args.item.now c.args.item.now.body c.args.outcome.now.learn c.args.outcome.now.answer ++ posts c.args.outcome.now.sends))
    ∙ change_both c.args.item.now.to c.args.item.now.stamp w (counts_unless (is_fine c.args.outcome.now.errno)) (followed_by c.args.item.now c.args.item.now.body c.args.outcome.now.learn c.args.outcome.now.answer ++ posts c.args.outcome.now.sends)
    ∙ change_both c.args.item.now.to c.args.item.now.stamp v (followed_by c.args.item.now c.args.item.now.body c.args.outcome.now.learn c.args.outcome.now.answer) (posts c.args.outcome.now.sends))) all
