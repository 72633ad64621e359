use Rattle.std.proofs.Common.{sym, subst}
use Rattle.ng_machine.specs.Laws.{Setting}
use Rattle.ng_machine.specs.LowRun.{IsModest}
use Rattle.ng_core.specs.CoreStory.{story}
use Rattle.ng_machine.specs.story.Story.{with_more}
use Rattle.ng_workers.specs.pool.Held.{HoldsJobs}
use Rattle.ng_workers.proofs.pool.Emptying.{empty_holds}
use Rattle.ng_workers.proofs.pool.choosing.play.Goals as goal

pub make_moves-requires-clause-holds : goal.make_moves-requires-clause-holds
make_moves-requires-clause-holds g c κs within =
    subst (λ held. HoldsJobs g.B.Node.state held (story c.args.core.now)) (sym c.deref_mut.ensures.value) (empty_holds g.B.Node.state c.in_ok-held.held.items (story c.args.core.now) c.in_ok-held.ensures.nothing c.requires.idle)

pub returns-clause-fits : goal.returns-clause-fits
returns-clause-fits g c = subst (λ (x : Setting). IsModest (with_more x c.make_moves.new.unfed)) (sym c.give_back.ensures.setting) c.in_ok-skipped.ensures.fits
