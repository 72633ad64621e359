-- How deep shapes are.
use Rattle.std.proofs.Common.{◌≡◌, ◌≤◌, ◌<◌, ◌+◌, ◌-◌, ℕ, nat_le, arith}
use Rattle.std.proofs.lemmas.Bool.Decides.{nat_tests}
use Rattle.ng_shape.specs.Shape.{Shape, Nothing, UInt, Int, Hex, Str, Ether, Struct, Array, Counted}
use Rattle.ng_shape.specs.Sound.{depth}

pub depth_low : (f : Shape) → 1 ≤ depth f
depth_low Nothing = omega arith
depth_low (UInt bits) = omega arith
depth_low (Int bits) = omega arith
depth_low (Hex bits) = omega arith
depth_low (Str n) = omega arith
depth_low Ether = omega arith
depth_low (Struct ps) = omega arith
depth_low (Array n f) = omega arith
depth_low (Counted by max f) = omega arith

pub one_less : (d n : ℕ) → 0 < n → nat_le d (n - 1) ≡ nat_le (d + 1) n
one_less d n lt = grind (arith, nat_tests)
