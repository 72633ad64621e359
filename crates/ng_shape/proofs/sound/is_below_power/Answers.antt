use Rattle.std.proofs.Common.{◌^◌, ◌≤◌, arith}
use Rattle.std.proofs.Math.Nat.{pow-le-pow_right}
use Rattle.std.proofs.lemmas.Bool.Decides.{nat_tests}
use Rattle.ng_shape.proofs.sound.is_below_power.Goals as goal

pub returns-then-power-ge32 : goal.returns-then-power-ge32
returns-then-power-ge32 c =
    let power = c.args.power in
    let le : 32 ≤ power = omega arith in
    let high : 2 ^ 32 ≤ 2 ^ power = pow-le-pow_right {n = 2} (omega arith) {i = 32} {j = power} le in
    grind (arith, nat_tests, high)
