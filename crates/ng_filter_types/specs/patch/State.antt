-- The state of a patch node, as the node keeps it.
use Rattle.std.specs.Prelude.{ℕ, List}
use Rattle.ng_machine.specs.declared.plan.PatchOp.{PatchOp}
use Rattle.ng_machine.specs.State.{State, PatchState}

-- its hooks and its operations
pub record Patch : Type 0 where
  pub hooks : List (List ℕ)
  pub ops : List PatchOp

abbrev pub patch_state : Patch → State
patch_state p = record { hooks = p.hooks; kept = PatchState p.ops }
