-- Operations that are read one behind another, and what setconfig refuses.
use Rattle.std.proofs.Common.{◌≡◌, ℕ, zero, suc, ◌+◌, ◌*◌, ◌==◌, Bool, true, false, not, List, [], ◌∷◌, ◌++◌, length, drop, Some, None, refl, ap, ◌∙◌, arith, add-one}
use Rattle.std.specs.List.{list_all}
use Rattle.std.proofs.lemmas.List.{drop-drop}
use Rattle.ng_machine.specs.Arguments.{number_at}
use Rattle.ng_machine.specs.Errors.{einval}
use Rattle.ng_machine.specs.kinds.Patch.{is_op, has_ops, op_in, ops_in, ops_of, ops_refusals}
use Rattle.ng_machine.specs.Words.{first_refusal}

next : (n : ℕ) (fields : List ℕ) → ops_in (suc n) fields ≡ ops_in n fields ++ op_in (drop (16 * n) fields) ∷ []
next zero fields = refl
next (suc n) fields =
    let e : 16 + 16 * n ≡ 16 * suc n = omega arith in
    ap (λ rest. op_in fields ∷ rest)
    (next n (drop 16 fields) ∙ ap (λ field. ops_in n (drop 16 fields) ++ op_in field ∷ []) (drop-drop (16 * n) 16 fields ∙ ap (λ k. drop k fields) e))

pub one_more : (n : ℕ) (fields : List ℕ) → ops_in (n + 1) fields ≡ ops_in n fields ++ op_in (drop (16 * n) fields) ∷ []
one_more n fields = rw add-one (next n fields)

pub few : (n : ℕ) (fields : List ℕ) → length (ops_in n fields) ≡ n
few zero fields = refl
few (suc n) fields = ap suc (few n (drop 16 fields))

-- the table of refusals of setconfig, row by row

by_count : (a b c : Bool) → a ≡ false → first_refusal ((not a, einval) ∷ (not b, einval) ∷ (not c, einval) ∷ []) ≡ Some einval
by_count a b c off = rw off refl

by_flags : (a b c : Bool) → a ≡ true → b ≡ false → first_refusal ((not a, einval) ∷ (not b, einval) ∷ (not c, einval) ∷ []) ≡ Some einval
by_flags a b c whole off = rw whole (rw off refl)

by_ops : (a b c : Bool) → a ≡ true → b ≡ true → c ≡ false → first_refusal ((not a, einval) ∷ (not b, einval) ∷ (not c, einval) ∷ []) ≡ Some einval
by_ops a b c whole plain off = rw whole (rw plain (rw off refl))

by_none : (a b c : Bool) → a ≡ true → b ≡ true → c ≡ true → first_refusal ((not a, einval) ∷ (not b, einval) ∷ (not c, einval) ∷ []) ≡ None
by_none a b c whole plain right = rw whole (rw plain (rw right refl))

pub not_counted : (args : List ℕ) → has_ops args ≡ false → first_refusal (ops_refusals [] args) ≡ Some einval
not_counted args off = by_count (has_ops args) (number_at 4 args 4 == 0) (list_all is_op (ops_of args)) off

pub flagged : (args : List ℕ) → has_ops args ≡ true → (number_at 4 args 4 == 0) ≡ false → first_refusal (ops_refusals [] args) ≡ Some einval
flagged args whole off = by_flags (has_ops args) (number_at 4 args 4 == 0) (list_all is_op (ops_of args)) whole off

pub undoable : (args : List ℕ) → has_ops args ≡ true → (number_at 4 args 4 == 0) ≡ true → list_all is_op (ops_of args) ≡ false → first_refusal (ops_refusals [] args) ≡ Some einval
undoable args whole plain off = by_ops (has_ops args) (number_at 4 args 4 == 0) (list_all is_op (ops_of args)) whole plain off

pub doable : (args : List ℕ) → has_ops args ≡ true → (number_at 4 args 4 == 0) ≡ true → list_all is_op (ops_of args) ≡ true → first_refusal (ops_refusals [] args) ≡ None
doable args whole plain right = by_none (has_ops args) (number_at 4 args 4 == 0) (list_all is_op (ops_of args)) whole plain right
