-- Numbers that are cut at 1,000,001, a digit at a time.
use Rattle.std.proofs.Common.{◌≡◌, ℕ, ◌+◌, ◌*◌, ◌≤◌, min, arith, inl, inr, refl}
use Rattle.std.proofs.Math.Nat.{mul-le-mul_right}
use Rattle.std.proofs.lemmas.Bool.{cases_lt}

pub capped_more : (v r d : ℕ) → 1 ≤ r → min (min v 1000001 * r + d) 1000001 ≡ min (v * r + d) 1000001
capped_more v r d h =
    elim (cases_lt v 1000001) [
      | inl lt ↦ let e : min v 1000001 ≡ v = omega arith in rw e refl
      | inr le ↦ let e : min v 1000001 ≡ 1000001 = omega arith in rw e (omega (arith, mul-le-mul_right r le))
    ]
