-- A part of a part of bytes is a part of them.
use Rattle.std.proofs.Common.{◌≡◌, ℕ, ◌+◌, ◌-◌, ◌≤◌, List, take, drop, sym, ap, ◌∙◌, arith}
use Rattle.std.proofs.lemmas.List.{drop-take, drop-drop, take-take}

pub part_of_part : (bytes : List ℕ) (start whole from len : ℕ) → from + len ≤ whole
    → take len (drop (start + from) bytes) ≡ take len (drop from (take whole (drop start bytes)))
part_of_part bytes start whole from len fits =
    let most : ℕ = whole - from in
    let split : whole ≡ from + most = omega arith in
    sym (ap (λ (n : ℕ). take len (drop from (take n (drop start bytes)))) split
    ∙ ap (take len) (drop-take from most (drop start bytes))
    ∙ take-take len most (drop from (drop start bytes)) (omega arith)
    ∙ ap (take len) (drop-drop from start bytes))
