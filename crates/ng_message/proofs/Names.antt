-- A name is read back from its field: none of its bytes is NUL, and at least one NUL follows them.
use Rattle.std.proofs.Common.{◌≡◌, ℕ, suc, ◌+◌, ◌-◌, ◌==◌, true, false, List, [], ◌∷◌, ◌++◌, length, position, replicate, Some, refl, ap, ◌∙◌, arith}
use Rattle.std.specs.List.{position_from, AllByRecursion}
use Rattle.std.proofs.lemmas.Bool.Decides.{nat_tests}
use Rattle.std.proofs.lemmas.Grind.{common_steps}
use Rattle.std.proofs.lemmas.Iterator.Adapters.{position_from-zero}
use Rattle.std.proofs.lemmas.List.{take_at, length-append, length-replicate}
use Rattle.ng_base.specs.Name.{is_name_byte, IsName}
use Rattle.ng_base.proofs.NameLemmas.{each_name_byte, length-name}
use Rattle.ng_message.specs.Fields.{name_field, field_text}

name_byte_is_no_nul : (b : ℕ) → is_name_byte b ≡ true → (b == 0) ≡ false
name_byte_is_no_nul b h = grind (arith, common_steps, nat_tests)

-- the first NUL stands right behind the bytes
first_nul_behind : (i : ℕ) (bytes rest : List ℕ) → AllByRecursion (λ b. (b == 0) ≡ false) bytes
    → position_from (λ b. b == 0) i (bytes ++ 0 ∷ rest) ≡ Some (i + length bytes)
first_nul_behind i [] rest h = ap (λ (n : ℕ). Some n) (omega arith)
first_nul_behind i (b ∷ bytes) rest h = rw (h.0) (first_nul_behind (i + 1) bytes rest h.1 ∙ ap (λ (n : ℕ). Some n) (omega arith))

first_nul : (name : List ℕ) → IsName name → position (λ b. b == 0) (name_field name) ≡ Some (length name)
first_nul name named =
    let short = length-name name named in
    let room : 32 - length name ≡ suc (31 - length name) = omega arith in
    position_from-zero (λ b. b == 0) (name_field name)
    ∙ ap (λ (n : ℕ). position_from (λ b. b == 0) 0 (name ++ replicate n 0)) room
    ∙ first_nul_behind 0 name (replicate (31 - length name) 0) (each_name_byte (λ b. (b == 0) ≡ false) name_byte_is_no_nul name named)
    ∙ ap (λ (n : ℕ). Some n) (omega arith)

pub field_text-name_field : (name : List ℕ) → IsName name → field_text (name_field name) ≡ name
field_text-name_field name named = rw (first_nul name named) (take_at name (replicate (32 - length name) 0) (length name) refl)

pub length-name_field : (name : List ℕ) → IsName name → length (name_field name) ≡ 32
length-name_field name named =
    omega (arith, length-name name named, length-append name (replicate (32 - length name) 0), length-replicate {A = ℕ} (32 - length name) 0)
