use Rattle.std.proofs.Common.{refl, sym, subst}
use Rattle.ng_machine.specs.Laws.{Setting}
use Rattle.ng_machine.specs.LowRun.{IsModest}
use Rattle.ng_core.specs.CoreStory.{story}
use Rattle.ng_machine.specs.story.Story.{with_more}
use Rattle.ng_workers.specs.pool.Moves.{Makes, Skips}
use Rattle.ng_workers.specs.declared.pool.moves.Move.{Move}
use Rattle.ng_workers.proofs.pool.making.make_move.Goals as goal

pub returns-in_ok-take-in-Take-clause-makes : goal.returns-in_ok-take-in-Take-clause-makes
returns-in_ok-take-in-Take-clause-makes g c = λ is.
    subst (λ (m : Move). Makes (story c.args.core.now) c.args.unfed.now m (story c.take.new.core) c.args.unfed.now × (Skips (story c.args.core.now) c.args.unfed.now m → ⊥)) (sym c.in-Take.is)
    (c.in_ok-take-in-Take.ensures.makes c.args.unfed.now is)

pub returns-in_ok-take-in-Take-clause-skips : goal.returns-in_ok-take-in-Take-clause-skips
returns-in_ok-take-in-Take-clause-skips g c = λ is.
    let k = c.in_ok-take-in-Take.ensures.skips c.args.unfed.now is in
    (k.0, refl, subst (λ (m : Move). Skips (story c.args.core.now) c.args.unfed.now m) (sym c.in-Take.is) k.1)

pub returns-in_ok-take-in-Take-clause-fits : goal.returns-in_ok-take-in-Take-clause-fits
returns-in_ok-take-in-Take-clause-fits g c = subst (λ (x : Setting). IsModest (with_more x c.args.unfed.now)) (sym c.in_ok-take-in-Take.ensures.setting) c.requires.fits

pub returns-in-Back-clause-makes : goal.returns-in-Back-clause-makes
returns-in-Back-clause-makes g c = λ is.
    subst (λ (m : Move). Makes (story c.args.core.now) c.args.unfed.now m (story c.put_back.new.core) c.args.unfed.now × (Skips (story c.args.core.now) c.args.unfed.now m → ⊥)) (sym c.in-Back.is)
    ((c.put_back.ensures.back, refl), c.put_back.ensures.makes c.args.unfed.now is)

pub returns-in-Back-clause-skips : goal.returns-in-Back-clause-skips
returns-in-Back-clause-skips g c = λ is.
    let k = c.put_back.ensures.skips c.args.unfed.now is in
    (k.0, refl, subst (λ (m : Move). Skips (story c.args.core.now) c.args.unfed.now m) (sym c.in-Back.is) k.1)

pub returns-in-Back-clause-fits : goal.returns-in-Back-clause-fits
returns-in-Back-clause-fits g c = subst (λ (x : Setting). IsModest (with_more x c.args.unfed.now)) (sym c.put_back.ensures.setting) c.requires.fits

pub returns-in_ok-apply-in-Apply-clause-makes : goal.returns-in_ok-apply-in-Apply-clause-makes
returns-in_ok-apply-in-Apply-clause-makes g c = λ is.
    subst (λ (m : Move). Makes (story c.args.core.now) c.args.unfed.now m (story c.apply.new.core) c.args.unfed.now × (Skips (story c.args.core.now) c.args.unfed.now m → ⊥)) (sym c.in-Apply.is)
    (c.in_ok-apply-in-Apply.ensures.makes c.args.unfed.now is)

pub returns-in_ok-apply-in-Apply-clause-skips : goal.returns-in_ok-apply-in-Apply-clause-skips
returns-in_ok-apply-in-Apply-clause-skips g c = λ is.
    let k = c.in_ok-apply-in-Apply.ensures.skips c.args.unfed.now is in
    (k.0, refl, subst (λ (m : Move). Skips (story c.args.core.now) c.args.unfed.now m) (sym c.in-Apply.is) k.1)

pub returns-in_ok-apply-in-Apply-clause-fits : goal.returns-in_ok-apply-in-Apply-clause-fits
returns-in_ok-apply-in-Apply-clause-fits g c = subst (λ (x : Setting). IsModest (with_more x c.args.unfed.now)) (sym c.in_ok-apply-in-Apply.ensures.setting) c.requires.fits
