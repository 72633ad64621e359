use Rattle.std.proofs.Common.{◌≡◌, take}
use Rattle.std.specs.List.{fold}
use Rattle.ng_machine.specs.kinds.Patch.{patch_by}
use Rattle.ng_plan.proofs.patch.patch_all.Given as goal

abbrev pub invariant-loop-op : goal.invariant-loop-op
invariant-loop-op l = l.packet ≡ fold patch_by l.initial.packet (take l.op-index l.ops)
