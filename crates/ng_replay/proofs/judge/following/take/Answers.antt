use Rattle.std.proofs.Common.{◌≡◌, ◌∙◌, ap, sym, subst, arith}
use Rattle.std.specs.Prelude.{IfNone, IfSome}
use Rattle.std.specs.declared.option.Option.{Option}
use Rattle.std.specs.declared.option.Option.TheVariants.{Some}
use Rattle.ng_base.specs.declared.event.Event.TheVariants as by
use Rattle.ng_core.specs.CoreStory.{story}
use Rattle.ng_machine.specs.story.Desks.{story_job}
use Rattle.ng_machine.specs.story.SoundStory.{IsSoundStory}
use Rattle.ng_machine.specs.story.Story.{NothingToTake, has_ended, with_event}
use Rattle.ng_core_state.specs.declared.handed.Work.{Work}
use Rattle.ng_core_state.specs.Handed.{item_of, job_with}
use Rattle.ng_workers.proofs.pool.Holding.{holds_set}
use Rattle.ng_replay.proofs.judge.Followed.{follows_named}
use Rattle.ng_replay.proofs.judge.Refusing.{refuses_busy, refuses_nothing, refuses_other, refuses_seat}
use Rattle.ng_replay.proofs.judge.Seats.{busy_seat, other_item, same_item}
use Rattle.ng_replay.proofs.judge.following.take.Goals as goal
use Rattle.ng_replay.proofs.judge.following.take.Goals.{then-at-held-via-then-at-held, then-at-held-via-else-at-held+then-is_some}

pub returns-then-at-held-clause-refuses : goal.returns-then-at-held-clause-refuses
returns-then-at-held-clause-refuses g c = λ _. elim c.then-at-held.branch [
  | then-at-held-via-then-at-held w ↦ refuses_seat (story c.args.core.now) c.args.unfed.now c.args.id c.args.seat c.requires.goes (omega (arith, w.if-at-held.true, c.requires.seats))
  | then-at-held-via-else-at-held+then-is_some w ↦
      refuses_busy (story c.args.core.now) c.args.unfed.now c.args.id c.args.seat c.requires.goes c.know_story.ensures.sound c.requires.running
      (busy_seat g.B.Node.state c.args.held.now (story c.args.core.now) c.args.seat w.index-held-at.result c.requires.holds (omega (arith, w.if-at-held.false)) (sym w.is_some.ensures ∙ w.if-is_some.true))
]

pub returns-in_default-clause-refuses : goal.returns-in_default-clause-refuses
returns-in_default-clause-refuses g c = λ _.
    let none = subst (λ (o : Option (Work g.row.B.Denot)). IfNone o ((c.take.new.self ≡ c.args.core.now) × NothingToTake (story c.args.core.now))) c.in_default.is c.in_ok-taken.ensures.none in
    refuses_nothing (story c.args.core.now) c.args.unfed.now c.args.id c.args.seat c.requires.goes c.requires.running none.1

pub returns-then-ne-clause-refuses : goal.returns-then-ne-clause-refuses
returns-then-ne-clause-refuses g c = λ _.
    let took = subst (λ (o : Option (Work g.row.B.Denot)). IfSome o (λ w. story c.take.new.self ≡ with_event (story c.args.core.now) (by.Take c.args.seat (item_of w).id))) c.in-Some.is c.in_ok-taken.ensures.taken in
    refuses_other (story c.args.core.now) c.args.unfed.now c.args.id c.args.seat c.requires.goes (item_of c.in-Some.taken).id (subst IsSoundStory took c.know_story-2.ensures.sound) c.requires.running
    (other_item c.id.result (item_of c.in-Some.taken).id c.args.id c.ne.result c.ne.ensures c.if-ne.true c.id.ensures)

pub returns-clause-follows : goal.returns-clause-follows
returns-clause-follows g c = λ _.
    let took = subst (λ (o : Option (Work g.row.B.Denot)). IfSome o (λ w. story c.take.new.self ≡ with_event (story c.args.core.now) (by.Take c.args.seat (item_of w).id))) c.in-Some.is c.in_ok-taken.ensures.taken in
    follows_named (λ i. by.Take c.args.seat i) (story c.args.core.now) (story c.take.new.self) c.args.unfed.now (item_of c.in-Some.taken).id c.args.id (same_item c.id.result (item_of c.in-Some.taken).id c.args.id c.ne.result c.ne.ensures c.if-ne.false c.id.ensures) took c.know_story-2.ensures.sound c.requires.running

pub returns-clause-holds : goal.returns-clause-holds
returns-clause-holds g c = λ _.
    let took = subst (λ (o : Option (Work g.row.B.Denot)). IfSome o (λ w. story c.take.new.self ≡ with_event (story c.args.core.now) (by.Take c.args.seat (item_of w).id))) c.in-Some.is c.in_ok-taken.ensures.taken in
    let job = subst (λ (o : Option (Work g.row.B.Denot)). IfSome o (λ w. job_with g.B.Node.state w ≡ story_job (story c.take.new.self) c.args.seat)) c.in-Some.is c.in_ok-taken.ensures.work in
    let ends = ap has_ended took in
    holds_set g.B.Node.state c.args.held.now (story c.args.core.now) (story c.take.new.self) c.args.seat (Some c.in-Some.taken) c.requires.holds c.take.ensures.others (sym job) (λ _. ends ∙ c.requires.running) ends
    (omega (arith, c.if-at-held.false))
