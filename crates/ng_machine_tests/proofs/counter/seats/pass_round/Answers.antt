use Rattle.std.proofs.Common.{◌≡◌, length, rules, subst, ◌∙◌}
use Rattle.ng_turn.proofs.Passes.{EachAt, each_more}
use Rattle.ng_machine_tests.proofs.counter.Rounds.{AsIn, first_of_two, second_of_two, less_of_two, as_before, round_ended}
use Rattle.ng_machine_tests.proofs.counter.seats.pass_round.Goals as goal
use Rattle.ng_machine_tests.proofs.counter.seats.pass_round.Goals.{In-Some-pop, After-push_reserved-2}

popped_first : (g : _) (c : In-Some-pop g)
    → AsIn c.in_ok-turn.turn c.args.counter (length c.pop-2.new.self.items) c.in-Some-pop.first
popped_first g c =
    first_of_two c.in_ok-turn.turn c.args.counter c.in_ok-turn.passes.items c.pop.new.self.items
    c.pop-2.new.self.items c.in-Some-pop.first c.in-Some.second
    c.in-Some.ensures.items c.in-Some-pop.ensures.items c.in_ok-turn.ensures.made.2

popped_second : (g : _) (c : In-Some-pop g) → AsIn c.in_ok-turn.turn c.args.counter (length c.pop.new.self.items) c.in-Some.second
popped_second g c =
    second_of_two c.in_ok-turn.turn c.args.counter c.in_ok-turn.passes.items c.pop.new.self.items
    c.pop-2.new.self.items c.in-Some-pop.first c.in-Some.second
    c.in-Some.ensures.items c.in-Some-pop.ensures.items c.in_ok-turn.ensures.made.2

pub visit-first-requires : goal.visit-first-requires
visit-first-requires g c = (popped_first g (goal.at.visit-first-requires g c).In-Some-pop).0

pub visit-second-requires : goal.visit-second-requires
visit-second-requires g c = (popped_second g (goal.at.visit-second-requires g c).In-Some-pop).0

-- both passes are back, each with the desk that it went out with
back : (g : _) (c : After-push_reserved-2 g)
    → AsIn c.in_ok-turn.turn c.args.counter (length c.pop-2.new.self.items) c.in-Some-pop.first
    → AsIn c.in_ok-turn.turn c.args.counter (length c.pop.new.self.items) c.in-Some.second
    → EachAt (AsIn c.in_ok-turn.turn c.args.counter) c.push_reserved-2.new.self.items
back g c first second =
    let turn = c.in_ok-turn.turn in
    let counter = c.args.counter in
    let none = c.pop-2.new.self.items in
    let one = c.push_reserved.new.self.items in
    let rest =
    less_of_two turn counter c.in_ok-turn.passes.items c.pop.new.self.items none c.in-Some-pop.first c.in-Some.second
    c.in-Some.ensures.items c.in-Some-pop.ensures.items c.in_ok-turn.ensures.made.2 in
    let both = c.visit_together-first.ensures in
    let alone = c.visit-first.ensures in
    let alone' = c.visit-second.ensures in
    let first' =
    as_before turn counter (length none) c.in-Some-pop.first c.visit_together-first.result.0 first both.turn.0
    (both.seats.0 ∙ alone.seat) (both.desks.0 ∙ alone.desk) in
    let second' =
    as_before turn counter (length c.pop.new.self.items) c.in-Some.second c.visit_together-first.result.1 second both.turn.1
    (both.seats.1 ∙ alone'.seat) (both.desks.1 ∙ alone'.desk) in
    let len : length c.pop.new.self.items ≡ length one = search rules in
    each_more (AsIn turn counter) c.push_reserved-2.new.self.items one c.visit_together-first.result.1 c.push_reserved-2.ensures.items
    (each_more (AsIn turn counter) one none c.visit_together-first.result.0 c.push_reserved.ensures.items rest first')
    (subst (λ n. AsIn turn counter n c.visit_together-first.result.1) len second')

pub end-requires : goal.end-requires
end-requires g c =
    let at = (goal.at.end-requires g c).In-Some-pop in
    let each = back g c (popped_first g at) (popped_second g at) in
    let made = c.in_ok-turn.ensures.made in
    ((search rules), λ k p there. let is = each k p there in (is.0, is.1))

pub returns-clause-same : goal.returns-clause-same
returns-clause-same g c =
    let at = (goal.at.returns-clause-same g c).In-Some-pop in let made = c.in_ok-turn.ensures.made in
    round_ended c.in_ok-turn.turn c.args.counter c.end.result c.push_reserved-2.new.self.items c.requires (search rules)
    (back g (goal.at.returns-clause-same g c).After-push_reserved-2 (popped_first g at) (popped_second g at)) c.end.ensures
