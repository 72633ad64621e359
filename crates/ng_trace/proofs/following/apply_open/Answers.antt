use Rattle.std.proofs.Common.{◌≡◌, ◌∙◌, Bool, true, sym}
use Rattle.ng_base.specs.declared.event.Event.TheVariants as by
use Rattle.ng_core.specs.CoreStory.{story}
use Rattle.ng_machine.specs.story.Story.{AreFitFor}
use Rattle.ng_replay.proofs.judge.Refusing.{refuses_ended}
use Rattle.ng_replay.proofs.judge.Seats.{fits_same, if_ok_map}
use Rattle.ng_trace.proofs.following.apply_open.Goals as goal

pub returns-then-ended-clause-refuses : goal.returns-then-ended-clause-refuses
returns-then-ended-clause-refuses g c = λ _. refuses_ended (story c.args.core.now) c.args.unfed.now (by.Apply c.args.id) c.requires.goes (sym c.ended.ensures ∙ c.if-ended.true)

pub returns-clause-fits : goal.returns-clause-fits
returns-clause-fits g c =
    if_ok_map (λ (allowed : Bool). (story c.apply.new.core).setting ≡ (story c.args.core.now).setting) (λ (allowed : Bool). allowed ≡ true → AreFitFor (story c.apply.new.core) c.args.unfed.now) c.apply.result
    c.apply.ensures.setting (λ a same _. fits_same (story c.args.core.now) (story c.apply.new.core) c.args.unfed.now same c.requires.fits)
