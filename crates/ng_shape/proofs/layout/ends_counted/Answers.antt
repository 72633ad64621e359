use Rattle.std.proofs.Common.{◌≡◌, suc, ◌-◌, length, ◌∙◌, arith}
use Rattle.ng_shape.proofs.Widths.{ends_counted_last}
use Rattle.ng_shape.proofs.layout.ends_counted.Goals as goal

pub returns-in-len1-up : goal.returns-in-len1-up
returns-in-len1-up c =
    let fs = c.args.fields.now in
    let k : length fs ≡ suc (length fs - 1) = omega (arith, c.in-len1-up.len_at_least) in
    c.is_counted.ensures ∙ ends_counted_last fs (length fs - 1) _ k
