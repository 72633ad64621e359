-- Instructions that are read one behind another.
use Rattle.std.proofs.Common.{◌≡◌, ℕ, zero, suc, ◌+◌, ◌*◌, List, [], ◌∷◌, ◌++◌, drop, refl, ap, ◌∙◌, arith, add-one}
use Rattle.std.proofs.lemmas.List.{drop-drop}
use Rattle.ng_machine.specs.kinds.Bpf.{insn_in, insns_in}

next : (n : ℕ) (fields : List ℕ) → insns_in (suc n) fields ≡ insns_in n fields ++ insn_in (drop (8 * n) fields) ∷ []
next zero fields = refl
next (suc n) fields =
    let e : 8 + 8 * n ≡ 8 * suc n = omega arith in
    ap (λ rest. insn_in fields ∷ rest)
    (next n (drop 8 fields) ∙ ap (λ field. insns_in n (drop 8 fields) ++ insn_in field ∷ []) (drop-drop (8 * n) 8 fields ∙ ap (λ k. drop k fields) e))

pub one_more : (n : ℕ) (fields : List ℕ) → insns_in (n + 1) fields ≡ insns_in n fields ++ insn_in (drop (8 * n) fields) ∷ []
one_more n fields = rw add-one (next n fields)
