use Rattle.std.specs.declared.option.Option.TheVariants.{None}
use Rattle.ng_base.specs.declared.event.Event.TheVariants as by
use Rattle.ng_core.specs.CoreStory.{story}
use Rattle.ng_core_state.specs.Handed.{item_of}
use Rattle.ng_replay.proofs.judge.Followed.{follows_named}
use Rattle.ng_replay.proofs.judge.Refusing.{refuses_apply}
use Rattle.ng_replay.proofs.judge.Seats.{holds_more}
use Rattle.ng_trace.proofs.following.apply.Goals as goal

pub returns-in_default-clause-refuses : goal.returns-in_default-clause-refuses
returns-in_default-clause-refuses g c = λ _.
    refuses_apply g.B.Node.state c.args.held.now (story c.args.core.now) c.requires.holds c.know_story.ensures.sound c.requires.running c.args.unfed.now c.args.id c.requires.goes
    c.in_default.ensures.none

pub returns-clause-follows : goal.returns-clause-follows
returns-clause-follows g c = λ _.
    follows_named (λ i. by.Apply i) (story c.args.core.now) (story c.finish.new.core) c.args.unfed.now (item_of c.in-Some.taken).id c.args.id c.in-Some.ensures.item c.in_ok-finish.ensures.applied c.know_story-2.ensures.sound c.requires.running

pub returns-clause-holds : goal.returns-clause-holds
returns-clause-holds g c = λ _.
    holds_more g.B.Node.state c.args.held.now c.let_go.new.held (story c.args.core.now) (story c.finish.new.core) (by.Apply (item_of c.in-Some.taken).id) c.in-Some.seat None c.requires.holds c.in-Some.ensures.gone
    c.in_ok-finish.ensures.others c.in_ok-finish.ensures.own c.in_ok-finish.ensures.applied c.requires.running c.in-Some.ensures.within
