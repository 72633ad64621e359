use Rattle.std.proofs.Common.{◌≡◌, ◌<◌, ◌∙◌, ℕ, length, rules, arith, ap, sym, subst}
use Rattle.ng_workers.specs.Desks.{IsReady, core_desk}
use Rattle.ng_workers.specs.Passes.{AreBackFrom, IsReadyPass, desk, may_drive}
use Rattle.ng_workers.proofs.Rows.{back_more, drove_part, last_desk, last_ready, less_desks, less_ready, worked_part}
use Rattle.ng_workers.proofs.running.+fn-spread-beside+spread.Goals as goal
use Rattle.ng_workers.proofs.running.+fn-spread-beside+spread.Goals.{In-Some}

-- the last pass is ready
last : (g : _) (t : ℕ) (c : In-Some g t) → IsReadyPass c.args.turn.now c.args.inputs.items (length c.pop.new.self.items) c.in-Some.last
last g t c = last_ready c.args.turn.now c.args.inputs.items c.args.passes.items c.pop.new.self.items c.in-Some.last c.in-Some.ensures.items c.requires.ready

pub drive-requires-clause-turn : goal.drive-requires-clause-turn
drive-requires-clause-turn g t c κs within = (last g t (goal.at.drive-requires-clause-turn g t c).In-Some).0

pub drive-requires-clause-seat : goal.drive-requires-clause-seat
drive-requires-clause-seat g t c κs within =
    let mine = last g t (goal.at.drive-requires-clause-seat g t c).In-Some in
    let none : length c.pop.new.self.items ≡ 0 = search rules in
    mine.1 ∙ none

pub drive-requires-clause-ready : goal.drive-requires-clause-ready
drive-requires-clause-ready g t c κs within =
    let mine = last g t (goal.at.drive-requires-clause-ready g t c).In-Some in
    let none : length c.pop.new.self.items ≡ 0 = search rules in
    subst (λ (n : ℕ). IsReady n (desk c.in-Some.last)) none mine.2

pub drive-requires-clause-fits : goal.drive-requires-clause-fits
drive-requires-clause-fits g t c κs within =
    let mine = last g t (goal.at.drive-requires-clause-fits g t c).In-Some in
    let none : length c.pop.new.self.items ≡ 0 = search rules in
    subst (λ (n : ℕ). may_drive c.args.inputs.items n (desk c.in-Some.last)) none mine.3

pub beside-last-requires-clause-turn : goal.beside-last-requires-clause-turn
beside-last-requires-clause-turn g t c κs within = (last g t (goal.at.beside-last-requires-clause-turn g t c).In-Some).0

pub beside-last-requires-clause-ready : goal.beside-last-requires-clause-ready
beside-last-requires-clause-ready g t c κs within =
    let mine = last g t (goal.at.beside-last-requires-clause-ready g t c).In-Some in
    subst (λ (n : ℕ). IsReady n (desk c.in-Some.last)) (sym mine.1) mine.2

pub beside-last-requires-clause-rest : goal.beside-last-requires-clause-rest
beside-last-requires-clause-rest g t c κs within =
    let mine = last g t (goal.at.beside-last-requires-clause-rest g t c).In-Some in
    let ready = subst (λ (n : ℕ). IsReady n (desk c.in-Some.last)) (sym mine.1) mine.2 in
    let rest = less_ready c.args.turn.now c.args.inputs.items c.args.passes.items c.pop.new.self.items c.in-Some.last c.in-Some.ensures.items c.requires.ready in search rules

pub returns-clause-back : goal.returns-clause-back
returns-clause-back g t c = λ core desks.
    let mine = last g t (goal.at.returns-clause-back g t c).In-Some in
    let first = c.beside-last.ensures in
    let second = c.beside-last.ensures.rest in
    let turn = c.args.turn.now in
    let inputs = c.args.inputs.items in
    let rest = c.beside-last.result.1.items in
    let len : length rest ≡ length c.pop.new.self.items = search rules in
    let some : 0 < length rest = search rules in
    let was = last_desk turn inputs c.args.passes.items c.pop.new.self.items c.in-Some.last c.in-Some.ensures.items core desks in
    back_more turn core inputs c.push_reserved-2.new.self.items rest c.beside-last.result.0 c.push_reserved-2.ensures.items
    (second.0 core (less_desks turn inputs c.args.passes.items c.pop.new.self.items c.in-Some.last c.in-Some.ensures.items core desks)) (
      first.turn,
      first.grows.0 ∙ mine.1 ∙ sym len,
      worked_part inputs (length rest) (core_desk core (length rest)) (desk c.in-Some.last) (desk c.beside-last.result.0) some (was ∙ ap (core_desk core) (sym len)) first.grows.1 first.over,
    )
