-- The hook that was found is the one that the frame is for.
use Rattle.std.proofs.Common.{rules}
use Rattle.ng_machine.specs.kinds.Bridge.{link_number}
use Rattle.ng_plan.proofs.bridge_plan.LinkLemmas.{toward_found}
use Rattle.ng_plan.proofs.bridge_plan.bridge.BridgePlan.send_toward.Goals as goal

pub returns-in-Some : goal.returns-in-Some
returns-in-Some c =
    let e = toward_found c.args.self.now.links (link_number c.args.hook.now) c.args.link c.in-Some.out c.in-Some.ensures (search rules) in
    rw e (search rules)
