-- The rows compute.
use Rattle.std.proofs.Common.{refl}
use Rattle.ng_shape.specs.declared.shape.Shape.TheBlock.{hidden-the_row-Field-0}
use denote.Hole.Carrier as Carrier
use Rattle.ng_table.proofs.rows.macset.rows.Goals as goal

pub returns : goal.returns
unfolding hidden-the_row-Field-0 Carrier.hidden
returns c = refl
