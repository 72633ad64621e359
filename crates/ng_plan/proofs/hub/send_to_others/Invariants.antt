use Rattle.std.proofs.Common.{◌≡◌, take}
use Rattle.ng_machine.specs.declared.body.Door.TheVariants.{Hook}
use Rattle.ng_machine.specs.kinds.Hub.{fans}
use Rattle.ng_plan.proofs.hub.send_to_others.Given as goal

abbrev pub invariant-loop-other : goal.invariant-loop-other
invariant-loop-other l = l.outcome ≡ fans (take l.other-index l.hooks) (Hook l.hook) l.packet
