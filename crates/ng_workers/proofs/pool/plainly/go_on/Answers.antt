use Rattle.std.proofs.Common.{◌∙◌, inl, sym, ap, subst}
use Rattle.ng_core.specs.CoreStory.{CoreStory, story}
use Rattle.ng_machine.specs.story.Story.{AreFitFor}
use Rattle.ng_workers.proofs.pool.Idle.{all_idle}
use Rattle.ng_workers.proofs.pool.Steps.{Tried, served_fits, served_idle, served_lessens, tried, tried_ends, tried_fits, tried_goes, tried_idle, tried_lessens}
use Rattle.ng_workers.proofs.pool.Stretches.{going_served}
use Rattle.ng_workers.proofs.pool.PartRuns.{halts, on_err}
use Rattle.ng_workers.proofs.pool.plainly.go_on.Goals as goal
use Rattle.ng_workers.proofs.pool.plainly.go_on.Goals.{In_ok-fed}

pub serve_next-requires-clause-idle : goal.serve_next-requires-clause-idle
serve_next-requires-clause-idle g c κs within = all_idle (story c.args.core.now) 0 c.requires.idle

pub returns-then-branch-clause-going : goal.returns-then-branch-clause-going
returns-then-branch-clause-going g c = λ start inputs G.
    going_served start inputs (story c.args.core.now) (story c.serve_next.new.core) c.args.unfed.now c.know_story.ensures.sound (c.in_ok-serve_next.ensures.served c.if-branch.true) G

pub returns-then-branch-clause-fits : goal.returns-then-branch-clause-fits
returns-then-branch-clause-fits g c = served_fits (story c.args.core.now) (story c.serve_next.new.core) c.args.unfed.now (c.in_ok-serve_next.ensures.served c.if-branch.true) c.requires.fits

pub returns-then-branch-clause-less : goal.returns-then-branch-clause-less
returns-then-branch-clause-less g c = λ _.
    served_lessens (story c.args.core.now) (story c.serve_next.new.core) c.args.unfed.now c.know_story-then-branch.ensures.sound c.requires.running (c.in_ok-serve_next.ensures.served c.if-branch.true)

pub feed_next-requires-clause-fits : goal.feed_next-requires-clause-fits
feed_next-requires-clause-fits g c κs within = subst (λ (x : CoreStory). AreFitFor (story x) c.args.unfed.now) (sym (c.in_ok-serve_next.ensures.none c.if-branch.false).0) c.requires.fits

pub returns-then-branch-clause-idle : goal.returns-then-branch-clause-idle
returns-then-branch-clause-idle g c = served_idle (story c.args.core.now) (story c.serve_next.new.core) (c.in_ok-serve_next.ensures.served c.if-branch.true) c.requires.idle

try_ : (g : _) (c : In_ok-fed g) → Tried (story c.args.core.now) c.args.unfed.now (story c.feed_next.new.core) c.feed_next.new.self c.in_ok-fed.fed
try_ g c =
    let none = c.in_ok-serve_next.ensures.none c.if-branch.false in
    tried (story c.args.core.now) (story c.serve_next.new.core) (story c.feed_next.new.core) c.args.unfed.now c.feed_next.new.self c.in_ok-fed.fed (ap story none.0) none.1 c.in_ok-fed.ensures.fed
    (λ is. let k = c.in_ok-fed.ensures.unfed is in (ap story k.0, k.1, k.2))

pub returns-clause-going : goal.returns-clause-going
returns-clause-going g c = λ start inputs G.
    tried_goes (story c.args.core.now) (story c.feed_next.new.core) c.args.unfed.now c.feed_next.new.self c.know_story.ensures.sound c.requires.running c.requires.idle start inputs c.in_ok-fed.fed
    (try_ g (goal.at.returns-clause-going g c).In_ok-fed) G

pub returns-clause-idle : goal.returns-clause-idle
returns-clause-idle g c =
    tried_idle (story c.args.core.now) (story c.feed_next.new.core) c.args.unfed.now c.feed_next.new.self c.know_story.ensures.sound c.requires.running c.requires.idle c.in_ok-fed.fed
    (try_ g (goal.at.returns-clause-idle g c).In_ok-fed)

pub returns-clause-fits : goal.returns-clause-fits
returns-clause-fits g c =
    tried_fits (story c.args.core.now) (story c.feed_next.new.core) c.args.unfed.now c.feed_next.new.self c.know_story.ensures.sound c.requires.running c.requires.idle c.in_ok-fed.fed
    (try_ g (goal.at.returns-clause-fits g c).In_ok-fed) c.requires.fits

pub returns-clause-less : goal.returns-clause-less
returns-clause-less g c =
    tried_lessens (story c.args.core.now) (story c.feed_next.new.core) c.args.unfed.now c.feed_next.new.self c.know_story.ensures.sound c.requires.running c.requires.idle c.in_ok-fed.fed
    (try_ g (goal.at.returns-clause-less g c).In_ok-fed)

pub returns-clause-done : goal.returns-clause-done
returns-clause-done g c =
    tried_ends (story c.args.core.now) (story c.feed_next.new.core) c.args.unfed.now c.feed_next.new.self c.know_story.ensures.sound c.requires.running c.requires.idle c.in_ok-fed.fed
    (try_ g (goal.at.returns-clause-done g c).In_ok-fed)

pub returns-in_err-serve_next-clause-partly : goal.returns-in_err-serve_next-clause-partly
returns-in_err-serve_next-clause-partly g c = λ start inputs G.
    on_err c.from_residual.result
    (halts start inputs (story c.args.core.now) (story c.serve_next.new.core) c.args.unfed.now c.know_story.ensures.sound c.in_err-serve_next.ensures.halted G)

pub returns-in_err-fed-clause-partly : goal.returns-in_err-fed-clause-partly
returns-in_err-fed-clause-partly g c = λ start inputs G.
    on_err c.from_residual-in_err-fed.result
    (halts start inputs (story c.args.core.now) (story c.feed_next.new.core) c.args.unfed.now c.know_story.ensures.sound
    (inl (ap story (c.in_err-fed.ensures.err ∙ (c.in_ok-serve_next.ensures.none c.if-branch.false).0))) G)
