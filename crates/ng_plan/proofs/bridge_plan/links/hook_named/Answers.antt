-- A link that was found by a name has that name.
use Rattle.std.proofs.Common.{ap, ◌∙◌}
use Rattle.std.specs.Option.{option_map}
use Rattle.ng_machine.specs.declared.plan.BridgeLink.{BridgeLink}
use Rattle.ng_plan.proofs.bridge_plan.LinkLemmas.{named_found}
use Rattle.ng_plan.proofs.bridge_plan.links.hook_named.Goals as goal

pub returns-in-Some : goal.returns-in-Some
returns-in-Some c = ap (option_map (λ (l : BridgeLink). l.hook)) c.in-Some.ensures ∙ named_found c.args.links.now c.args.name.now

pub returns-in-None : goal.returns-in-None
returns-in-None c = ap (option_map (λ (l : BridgeLink). l.hook)) c.in-None.ensures ∙ named_found c.args.links.now c.args.name.now
