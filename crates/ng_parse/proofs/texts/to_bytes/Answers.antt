use Rattle.std.proofs.Common.{subst, sym, arith}
use Rattle.ng_shape.specs.Shape.{shape_of}
use Rattle.ng_shape.specs.Values.{value_of}
use Rattle.ng_shape.specs.Canonical.{IsCanonical}
use Rattle.ng_parse.proofs.Fitting.{value_canonical, bytes_are}
use Rattle.ng_parse.proofs.texts.to_bytes.Goals as goal

pub returns-in-Ok-lay_out-clause-canonical : goal.returns-in-Ok-lay_out-clause-canonical
returns-in-Ok-lay_out-clause-canonical c =
    let f = shape_of c.args.shape.now in
    let text = c.args.text.now in
    let good = bytes_are text (λ k lt. omega (arith, (c.type_inv.text k).fits)) in
    λ is. subst (IsCanonical f) (sym c.in-Ok-lay_out.ensures.bytes) (value_canonical f text (value_of c.in-Ok.tree) is good c.in-Ok.ensures)
