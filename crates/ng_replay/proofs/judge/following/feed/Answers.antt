use Rattle.std.proofs.Common.{ap}
use Rattle.ng_core.specs.CoreStory.{CoreStory, story}
use Rattle.ng_workers.proofs.pool.Steps.{fed_fits}
use Rattle.ng_replay.proofs.judge.Followed.{follows_feed}
use Rattle.ng_replay.proofs.judge.Refusing.{refuses_feed}
use Rattle.ng_replay.proofs.judge.Seats.{either, fed_ends, fed_seats, holds_fed}
use Rattle.ng_replay.proofs.judge.following.feed.Goals as goal

pub returns-clause-follows : goal.returns-clause-follows
returns-clause-follows g c = λ is.
    follows_feed (story c.args.core.now) (story c.feed_next.new.core) c.args.unfed.now c.feed_next.new.self (c.in_ok-fed.ensures.fed is).0 c.know_story-2.ensures.sound c.requires.running

pub returns-clause-refuses : goal.returns-clause-refuses
returns-clause-refuses g c = λ is. refuses_feed (story c.args.core.now) c.args.unfed.now c.know_story.ensures.sound c.requires.goes (c.in_ok-fed.ensures.unfed is).2

pub returns-clause-holds : goal.returns-clause-holds
returns-clause-holds g c = λ is.
    holds_fed g.B.Node.state c.args.held.now (story c.args.core.now) (story c.feed_next.new.core) c.requires.holds c.feed_next.ensures.others c.feed_next.ensures.jobs
    (fed_ends (story c.args.core.now) (story c.feed_next.new.core) c.args.unfed.now c.feed_next.new.self (c.in_ok-fed.ensures.fed is).0)

pub returns-clause-fits : goal.returns-clause-fits
returns-clause-fits g c = λ is. fed_fits (story c.args.core.now) (story c.feed_next.new.core) c.args.unfed.now c.feed_next.new.self (c.in_ok-fed.ensures.fed is).0 c.requires.fits

pub returns-clause-seats : goal.returns-clause-seats
returns-clause-seats g c = either c.in_ok-fed.fed
    (λ is. fed_seats (story c.args.core.now) (story c.feed_next.new.core) c.args.unfed.now c.feed_next.new.self (c.in_ok-fed.ensures.fed is).0)
    (λ is. ap (λ (x : CoreStory). x.seats) (c.in_ok-fed.ensures.unfed is).0)
