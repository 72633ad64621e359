use Rattle.std.proofs.Common.{subst}
use Rattle.ng_core.specs.CoreStory.{CoreStory, story}
use Rattle.ng_core.specs.Kept.{story_in}
use Rattle.ng_core.specs.Lawful.{IsLawful}
use Rattle.ng_core.proofs.Laws.{is_lawful}
use Rattle.ng_core.proofs.machine.Core.journal.Goals as goal

pub returns-clause-laws : goal.returns-clause-laws
returns-clause-laws g c = subst (λ (x : CoreStory). IsLawful (story x)) c.self.view_is (is_lawful (story (story_in c.self.inside.parts.value)) c.self.invariant.sound)
