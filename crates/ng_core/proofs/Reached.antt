-- What is known of a core's parts is known of them as they are reached in their place.
use Rattle.std.proofs.Common.{◌≡◌, ◌∙◌, sym, ap, subst}
use Rattle.ng_core.specs.CoreStory.{CoreStory}
use Rattle.ng_core.specs.Kept.{IsKept, story_in}
use Rattle.ng_core.specs.declared.machine.Parts.{Parts}

pub kept_there : {B : Type 0} {p q : Parts B} → p ≡ q → IsKept q → IsKept p
kept_there e K = subst IsKept (sym e) K

pub story_there : {B : Type 0} {p q : Parts B} {x : CoreStory} → p ≡ q → story_in q ≡ x → story_in p ≡ x
story_there e is = ap story_in e ∙ is
