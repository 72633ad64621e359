use Rattle.ng_core_state.proofs.step.AppliedItems.{items_are_applied as proved}
use Rattle.ng_core_state.proofs.step.laws.items_are_applied.Goals as goal

pub returns : goal.returns
returns c = proved
