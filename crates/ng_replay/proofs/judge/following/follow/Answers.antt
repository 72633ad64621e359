use Rattle.std.proofs.Common.{◌≡◌, ◌∙◌, Bool, true, sym}
use Rattle.ng_core.specs.CoreStory.{story}
use Rattle.ng_machine.specs.story.Story.{AreFitFor}
use Rattle.ng_replay.proofs.judge.Refusing.{refuses_ended}
use Rattle.ng_replay.proofs.judge.Seats.{fits_same, if_ok_all, if_ok_map}
use Rattle.ng_replay.proofs.judge.following.follow.Goals as goal

pub returns-then-ended-clause-refuses : goal.returns-then-ended-clause-refuses
returns-then-ended-clause-refuses g c = λ _. refuses_ended (story c.args.core.now) c.args.unfed.now c.args.event c.requires.goes (sym c.ended.ensures ∙ c.if-ended.true)

pub returns-in-Take-clause-fits : goal.returns-in-Take-clause-fits
returns-in-Take-clause-fits g c =
    if_ok_all (λ (allowed : Bool). allowed ≡ true → AreFitFor (story c.take.new.core) c.args.unfed.now) c.take.result
    (λ a _. fits_same (story c.args.core.now) (story c.take.new.core) c.args.unfed.now c.take.ensures.setting c.requires.fits)

pub returns-in-Back-clause-fits : goal.returns-in-Back-clause-fits
returns-in-Back-clause-fits g c = λ _. fits_same (story c.args.core.now) (story c.back.new.core) c.args.unfed.now c.back.ensures.setting c.requires.fits

pub returns-in-Apply-clause-fits : goal.returns-in-Apply-clause-fits
returns-in-Apply-clause-fits g c =
    if_ok_map (λ (allowed : Bool). (story c.apply.new.core).setting ≡ (story c.args.core.now).setting) (λ (allowed : Bool). allowed ≡ true → AreFitFor (story c.apply.new.core) c.args.unfed.now) c.apply.result
    c.apply.ensures.setting (λ a same _. fits_same (story c.args.core.now) (story c.apply.new.core) c.args.unfed.now same c.requires.fits)

pub returns-in-Stop-clause-fits : goal.returns-in-Stop-clause-fits
returns-in-Stop-clause-fits g c = λ is. fits_same (story c.args.core.now) (story c.stop.new.core) c.args.unfed.now (c.stop.ensures.setting is) c.requires.fits
