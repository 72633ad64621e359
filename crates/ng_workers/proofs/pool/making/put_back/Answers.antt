use Rattle.std.proofs.Common.{sym, ap, subst}
use Rattle.std.specs.declared.option.Option.TheVariants.{None}
use Rattle.ng_machine.specs.Desk.{SeatDesk}
use Rattle.ng_core.specs.CoreStory.{story}
use Rattle.ng_machine.specs.story.Story.{has_ended}
use Rattle.ng_workers.specs.pool.Held.{HoldsJobs}
use Rattle.ng_workers.proofs.pool.Holding.{holds_set}
use Rattle.ng_workers.proofs.pool.making.put_back.Goals as goal

pub returns-clause-holds : goal.returns-clause-holds
returns-clause-holds g c =
    subst (λ held. HoldsJobs g.B.Node.state held (story c.back.new.self)) (sym c.in-Some.ensures.gone)
    (holds_set g.B.Node.state c.args.held.now (story c.args.core.now) (story c.back.new.self) c.args.seat None c.requires.holds c.back.ensures.others (ap (λ (d : SeatDesk). d.job) c.back.ensures.own)
    (λ some. absurd (cc some)) (ap has_ended c.back.ensures.back) c.in-Some.ensures.within)
