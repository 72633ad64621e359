-- The rows of a dump.
use Rattle.std.proofs.Common.{◌≡◌, ℕ, ◌+◌, ◌-◌, ◌<◌, min, List, length, get_or, take, drop, ap, sym, ◌∙◌, inl, inr, arith, zero-add, length-drop}
use Rattle.std.proofs.lemmas.Bool.{cases_lt}
use Rattle.std.proofs.lemmas.List.{take_all}
use Rattle.std.proofs.lemmas.List.FromFn.{get_or-range_with_len}
use Rattle.std.specs.List.{range_with_len}

-- rows count from 0
pub node_at : (rows row : ℕ) → row < rows → get_or (range_with_len 0 rows) row 0 ≡ row
node_at rows row inside = get_or-range_with_len 0 rows row 0 inside ∙ zero-add row

-- sixteen bytes, or what is left
pub row_bytes : (packet : List ℕ) (at end : ℕ) → end ≡ min (length packet) (at + 16) → take (end - at) (drop at packet) ≡ take 16 (drop at packet)
row_bytes packet at end is = elim (cases_lt (length packet) (at + 16)) [
  | inl short ↦
      take_all (end - at) (drop at packet) (omega (arith, length-drop at packet))
      ∙ sym (take_all 16 (drop at packet) (omega (arith, length-drop at packet)))
  | inr long ↦ let sixteen : end - at ≡ 16 = omega arith in ap (λ (n : ℕ). take n (drop at packet)) sixteen
]
