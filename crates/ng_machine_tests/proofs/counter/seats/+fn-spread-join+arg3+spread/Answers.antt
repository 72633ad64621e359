use Rattle.std.proofs.Common.{◌≡◌, ◌+◌, ℕ, length, rules, arith, refl, ap, ◌∙◌}
use Rattle.ng_machine_tests.specs.counter.Passes.{HasAdded, AreDone}
use Rattle.ng_turn.proofs.Passes.{each_last, each_less, none_at}
use Rattle.ng_machine_tests.proofs.counter.Rounds.{done_more}
use Rattle.ng_machine_tests.proofs.counter.seats.+fn-spread-join+arg3+spread.Goals as goal
use Rattle.ng_machine_tests.proofs.counter.seats.+fn-spread-join+arg3+spread.Goals.{In-Some}

-- the last pass has added nothing
last : (g : _) (t : ℕ) (c : In-Some g t) → HasAdded c.args.turn.now (λ k. 0) (length c.pop.new.self.items) c.in-Some.last
last g t c =
    each_last (HasAdded c.args.turn.now (λ k. 0)) c.args.passes.items c.pop.new.self.items c.in-Some.last c.in-Some.ensures.items c.requires.idle

pub overflow_add-times : goal.overflow_add-times
overflow_add-times g t c =
    let mine = last g t (goal.at.overflow_add-times g t c).In-Some in
    let few = c.requires.few in search rules

pub add_times-requires-clause-turn : goal.add_times-requires-clause-turn
add_times-requires-clause-turn g t c = (last g t (goal.at.add_times-requires-clause-turn g t c).In-Some).0

pub add_times-requires-clause-seat : goal.add_times-requires-clause-seat
add_times-requires-clause-seat g t c = let mine = last g t (goal.at.add_times-requires-clause-seat g t c).In-Some in search rules

pub add_times-requires-clause-room : goal.add_times-requires-clause-room
add_times-requires-clause-room g t c =
    let mine = last g t (goal.at.add_times-requires-clause-room g t c).In-Some in
    let few = c.requires.few in search rules

pub returns-then-times-eq1-clause-done : goal.returns-then-times-eq1-clause-done
returns-then-times-eq1-clause-done g t c =
    let mine = last g t (goal.at.returns-then-times-eq1-clause-done g t c).In-Some in
    let added = c.add_times.ensures in
    let none : length c.pop.new.self.items ≡ 0 = let one = c.if-times-eq1.true in
    let at = c.seat-times.ensures ∙ mine.1 in omega arith in
    let nobody : AreDone c.args.turn.now c.pop.new.self.items = λ k p at. absurd (none_at c.pop.new.self.items k p none at) in
    done_more c.args.turn.now c.push_reserved.new.self.items c.pop.new.self.items c.in-Some.last c.add_times.result
    (c.seat-times.result + 1) (length c.pop.new.self.items)
    c.push_reserved.ensures.items nobody refl (ap (λ n. n + 1) c.seat-times.ensures) added.turn added.added mine

pub join-last-requires-after_bounds : goal.join-last-requires-after_bounds
join-last-requires-after_bounds g t c κs within =
    let mine = last g t (goal.at.join-last-requires-after_bounds g t c).In-Some in
    let rest =
    each_less
    (HasAdded c.args.turn.now (λ k. 0)) c.args.passes.items c.pop.new.self.items c.in-Some.last c.in-Some.ensures.items c.requires.idle in
    let few = c.requires.few in search rules

pub returns-clause-done : goal.returns-clause-done
returns-clause-done g t c =
    let mine = last g t (goal.at.returns-clause-done g t c).In-Some in
    let first = c.join-last.ensures.first in
    let second = c.join-last.ensures.second in
    let len : length c.join-last.result.1.items ≡ length c.pop.new.self.items = search rules in
    done_more c.args.turn.now c.push_reserved-2.new.self.items c.join-last.result.1.items c.in-Some.last c.join-last.result.0
    (c.seat-times.result + 1) (length c.pop.new.self.items)
    c.push_reserved-2.ensures.items second.0 len (ap (λ n. n + 1) c.seat-times.ensures) first.0 first.1 mine
