-- The first link of the hook, and 0 where there is none.
use Rattle.std.proofs.Common.{sym, ap, ◌∙◌}
use Rattle.ng_switch_types.proofs.bridge.LinkLists.{mute_in, mute_found}
use Rattle.ng_switch_types.proofs.bridge.links.Links.mute_of.Goals as goal

pub returns-in-Some : goal.returns-in-Some
returns-in-Some c = rw (← c.self.view_is) (c.mute.ensures ∙ ap mute_in (rw c.deref.ensures.value at c.in-Some.ensures) ∙ sym (mute_found c.self.inside.links.items c.args.hook.now))

pub returns-in-None : goal.returns-in-None
returns-in-None c = rw (← c.self.view_is) (ap mute_in (rw c.deref.ensures.value at c.in-None.ensures) ∙ sym (mute_found c.self.inside.links.items c.args.hook.now))
