-- The first link of the hook, and 0 where there is none.
use Rattle.std.proofs.Common.{sym, ap, ◌∙◌}
use Rattle.ng_plan.proofs.bridge_plan.LinkLemmas.{mute_in, mute_found}
use Rattle.ng_plan.proofs.bridge_plan.links.mute_of.Goals as goal

pub returns-in-Some : goal.returns-in-Some
returns-in-Some c = ap mute_in c.in-Some.ensures ∙ sym (mute_found c.args.links.now c.args.hook.now)

pub returns-in-None : goal.returns-in-None
returns-in-None c = ap mute_in c.in-None.ensures ∙ sym (mute_found c.args.links.now c.args.hook.now)
