use Rattle.std.proofs.Common.{◌≡◌, ◌∙◌, sym, ap, subst, arith, refl}
use Rattle.std.specs.Prelude.{IfSome}
use Rattle.std.specs.declared.option.Option.{Option}
use Rattle.std.specs.declared.option.Option.TheVariants.{Some}
use Rattle.ng_base.specs.declared.event.Event.TheVariants.{Take}
use Rattle.ng_machine.specs.Desk.{Idle}
use Rattle.ng_machine.specs.story.Desks.{story_job}
use Rattle.ng_machine.specs.story.SoundStory.{IsSoundStory}
use Rattle.ng_machine.specs.story.Story.{has_ended, with_event}
use Rattle.ng_core.specs.CoreStory.{story}
use Rattle.ng_core_state.specs.declared.handed.Work.{Work}
use Rattle.ng_core_state.specs.Handed.{item_of, job_with}
use Rattle.std.specs.Prelude.{false}
use Rattle.ng_workers.specs.pool.Held.{held_job}
use Rattle.ng_workers.proofs.pool.Holding.{free_at, holds_set, not_skipped}
use Rattle.ng_workers.proofs.pool.making.take.Goals as goal
use Rattle.ng_workers.proofs.pool.making.take.Goals.{After-know_story}

took : (g : _) (c : After-know_story g) → story c.take.new.self ≡ with_event (story c.args.core.now) (Take c.args.seat (item_of c.in-Some.taken).id)
took g c = subst (λ (o : Option (Work g.row.B.Denot)). IfSome o (λ w. story c.take.new.self ≡ with_event (story c.args.core.now) (Take c.args.seat (item_of w).id))) c.in-Some.is c.in_ok-taken.ensures.taken

running : (g : _) (c : After-know_story g) → has_ended (story c.args.core.now) ≡ false
running g c = subst (λ (o : Option (Work g.row.B.Denot)). IfSome o (λ w. has_ended (story c.args.core.now) ≡ false)) c.in-Some.is c.in_ok-taken.ensures.running

pub returns-clause-holds : goal.returns-clause-holds
returns-clause-holds g c =
    let at = (goal.at.returns-clause-holds g c).After-know_story in
    let job = subst (λ (o : Option (Work g.row.B.Denot)). IfSome o (λ w. job_with g.B.Node.state w ≡ story_job (story c.take.new.self) c.args.seat)) c.in-Some.is c.in_ok-taken.ensures.work in
    let ends = ap has_ended (took g at) in
    holds_set g.B.Node.state c.args.held.now (story c.args.core.now) (story c.take.new.self) c.args.seat (Some c.in-Some.taken) c.requires.holds c.take.ensures.others (sym job) (λ _. ends ∙ running g at) ends (omega (arith, c.if-at-held.false))

pub returns-clause-makes : goal.returns-clause-makes
returns-clause-makes g c = λ inputs _.
    let at = (goal.at.returns-clause-makes g c).After-know_story in
    let idle : story_job (story c.args.core.now) c.args.seat ≡ Idle = c.requires.holds.jobs c.args.seat ∙ ap (held_job g.B.Node.state) (free_at c.args.held.now c.args.seat c.index-held-at.result (omega (arith, c.if-at-held.false)) (sym c.is_some.ensures ∙ c.if-is_some.false)) in
    (((item_of c.in-Some.taken).id, took g at, refl), not_skipped (story c.args.core.now) c.args.seat (item_of c.in-Some.taken).id inputs (subst IsSoundStory (took g at) c.know_story.ensures.sound) (running g at) idle)
