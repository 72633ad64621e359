use Rattle.ng_shape.proofs.Whole.{canonical_layout}
use Rattle.ng_shape.proofs.laws.canonical_is_layout.Goals as goal

pub returns : goal.returns
returns c = canonical_layout
