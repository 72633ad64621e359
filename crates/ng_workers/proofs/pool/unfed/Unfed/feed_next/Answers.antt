use Rattle.std.proofs.Common.{◌≡◌, ◌∙◌, List, [], ◌∷◌, ap, sym, subst}
use Rattle.std.proofs.lemmas.List.{reverse-append}
use Rattle.std.specs.Prelude.{reverse}
use Rattle.ng_machine.specs.declared.input.Input.{Input}
use Rattle.ng_core.specs.CoreStory.{story}
use Rattle.ng_machine.specs.story.Story.{AreFitFor}
use Rattle.ng_workers.proofs.pool.Fits.{fit_first}
use Rattle.ng_workers.proofs.pool.unfed.Unfed.feed_next.Goals as goal

pub feed-requires-clause-fits : goal.feed-requires-clause-fits
feed-requires-clause-fits g c κs within =
    let all : c.args.self.now ≡ c.in-Some.input ∷ reverse c.pop.new.self.items =
    sym c.self.view_is ∙ ap (λ (l : List Input). reverse l) c.in-Some.ensures.items ∙ reverse-append c.pop.new.self.items (c.in-Some.input ∷ []) in
    fit_first (story c.args.core.now) c.in-Some.input (reverse c.pop.new.self.items) (subst (AreFitFor (story c.args.core.now)) all c.requires.fits)
