-- Operations that a patch node can have: each can be done, and there are at most 128.
use Rattle.std.specs.Prelude.{◌≡◌, ◌≤◌, true, List, length}
use Rattle.std.specs.List.{list_all}
use Rattle.ng_machine.specs.kinds.Patch.{is_op}
use Rattle.ng_machine.specs.declared.plan.PatchOp.{PatchOp}

pub record AreOps (ops : List PatchOp) : Type 0 where
  pub right : list_all is_op ops ≡ true
  pub few : length ops ≤ 128
