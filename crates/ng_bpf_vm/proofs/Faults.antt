-- The faults of a list, found one instruction after another.
use Rattle.std.proofs.Common.{◌≡◌, ℕ, suc, ◌<◌, ◌≤◌, ◌+◌, ◌-◌, Bool, true, false, List, [], ◌∷◌, ◌++◌, length, drop, get_or, Option, Some, None, refl, sym, ap, ◌∙◌, arith}
use Rattle.std.specs.Prelude.{slice_get, nat_lt, if◌then◌else◌}
use Rattle.std.specs.Option.{option_map, option_to_list}
use Rattle.std.proofs.lemmas.Bool.Decides.{nat_tests}
use Rattle.std.proofs.lemmas.List.{drop_more, drop_all, length-drop}
use Rattle.std.proofs.lemmas.Option.{slice_get_within}
use Rattle.ng_bpf_vm.specs.declared.instruction.Insn.{Insn}
use Rattle.ng_bpf_vm.specs.declared.validity.Fault.{Fault}
use Rattle.ng_bpf_vm.specs.declared.validity.Fault.TheVariants.{TooLong, NoReturn}
use Rattle.ng_bpf_vm.specs.Validity.{insn_fault, EachIsRight, returns_answer, ends_in_return, IsValid, faults_from, faults, first_fault}

-- none of the instructions before this place has a fault
abbrev pub NoneBefore : List Insn → ℕ → Type 0
NoneBefore insns at = faults_from 0 insns ≡ faults_from at (drop at insns)

-- the fault of one instruction, as a list
abbrev fault_list : ℕ → Option Fault → List (ℕ × Fault)
fault_list at o = option_to_list (option_map (λ fault. (at, fault)) o)

-- the parts of an empty list are empty
nothing_before : (at : ℕ) (o : Option Fault) (rest : List (ℕ × Fault)) → fault_list at o ++ rest ≡ [] → (o ≡ None) × (rest ≡ [])
nothing_before at None rest e = (refl, e)
nothing_before at (Some fault) rest e = absurd cc

each_right : (at : ℕ) (insns : List Insn) → faults_from at insns ≡ [] → EachIsRight insns
each_right at [] e = tt
each_right at (i ∷ rest) e =
    let parts = nothing_before at (insn_fault i (length rest)) (faults_from (at + 1) rest) e in
    (parts.0, each_right (at + 1) rest parts.1)

no_faults : (at : ℕ) (insns : List Insn) → EachIsRight insns → faults_from at insns ≡ []
no_faults at [] right = refl
no_faults at (i ∷ rest) right = ap (λ o. fault_list at o ++ faults_from (at + 1) rest) right.0 ∙ no_faults (at + 1) rest right.1

empty_parts : {X : Type 0} (long : Bool) (x : X) (middle : List X) (ends : Bool) (y : X)
    → (if long then x ∷ [] else []) ++ middle ++ (if ends then [] else y ∷ []) ≡ []
    → (long ≡ false) × (middle ≡ []) × (ends ≡ true)
empty_parts true x middle ends y e = absurd cc
empty_parts false x [] true y e = (refl, refl, refl)
empty_parts false x [] false y e = absurd cc
empty_parts false x (z ∷ middle) ends y e = absurd cc

no_first : {X : Type 0} (xs : List X) → slice_get xs 0 ≡ None → xs ≡ []
no_first [] e = refl
no_first (x ∷ xs) e = absurd cc

-- where there is no fault, the instructions are a valid program
pub valid_without_faults : (insns : List Insn) → first_fault insns ≡ None → IsValid insns
valid_without_faults [] e = absurd cc
valid_without_faults (i ∷ rest) e =
    let program : List Insn = i ∷ rest in
    let parts = empty_parts (nat_lt 512 (length program)) (length program, TooLong) (faults_from 0 program) (ends_in_return program) (length rest, NoReturn) (no_first (faults program) e) in
    let short : nat_lt 512 (length program) ≡ false = parts.0 in
    record {
      some = omega arith;
      few = grind (arith, nat_tests);
      each = each_right 0 program parts.1;
      ends = parts.2;
    }

-- a program that is not too long has no fault before those of its instructions
not_long : {X : Type 0} (long : Bool) (x : X) (middle last : List X) → long ≡ false → (if long then x ∷ [] else []) ++ middle ++ last ≡ middle ++ last
not_long true x middle last e = absurd cc
not_long false x middle last e = refl

-- the fault at the end
abbrev last_fault : List Insn → List (ℕ × Fault)
last_fault insns = if ends_in_return insns then [] else (length insns - 1, NoReturn) ∷ []

faults_if_few : (insns : List Insn) → 0 < length insns → length insns ≤ 512 → faults insns ≡ faults_from 0 insns ++ last_fault insns
faults_if_few [] some few = absurd (omega arith)
faults_if_few (i ∷ rest) some few =
    let program : List Insn = i ∷ rest in
    let short : nat_lt 512 (length program) ≡ false = grind (arith, nat_tests) in
    let place : length rest ≡ length program - 1 = omega arith in
    let last : List (ℕ × Fault) = if ends_in_return program then [] else (length rest, NoReturn) ∷ [] in
    not_long (nat_lt 512 (length program)) (length program, TooLong) (faults_from 0 program) last short
    ∙ ap (λ n. faults_from 0 program ++ (if ends_in_return program then [] else (n, NoReturn) ∷ [])) place

-- a valid program has no fault
pub no_faults_if_valid : (insns : List Insn) → IsValid insns → faults insns ≡ []
no_faults_if_valid insns valid =
    faults_if_few insns valid.some valid.few
    ∙ ap (λ found. found ++ last_fault insns) (no_faults 0 insns valid.each)
    ∙ ap (λ ends. if ends then [] else (length insns - 1, NoReturn) ∷ []) valid.ends

-- the faults from a place on are those of the instruction there, and those that follow it
faults_at : (insns : List Insn) (at : ℕ) (d : Insn) → at < length insns
    → faults_from at (drop at insns) ≡ fault_list at (insn_fault (get_or insns at d) (length insns - 1 - at)) ++ faults_from (at + 1) (drop (at + 1) insns)
faults_at insns at d here =
    let after : length (drop (at + 1) insns) ≡ length insns - 1 - at = omega (arith, length-drop (at + 1) insns) in
    ap (faults_from at) (drop_more insns at d here)
    ∙ ap (λ n. fault_list at (insn_fault (get_or insns at d) n) ++ faults_from (at + 1) (drop (at + 1) insns)) after

-- the first instruction with a fault
pub first_of_insns : (insns : List Insn) (at : ℕ) (d : Insn) (fault : Fault) → at < length insns
    → length insns ≤ 512 → NoneBefore insns at
    → insn_fault (get_or insns at d) (length insns - 1 - at) ≡ Some fault
    → first_fault insns ≡ Some (at, fault)
first_of_insns insns at d fault here few none found =
    let rest : List (ℕ × Fault) = faults_from (at + 1) (drop (at + 1) insns) in
    let all = faults_if_few insns (omega arith) few in
    let front = none ∙ faults_at insns at d here ∙ ap (λ o. fault_list at o ++ rest) found in
    ap (λ xs. slice_get xs 0) (all ∙ ap (λ xs. xs ++ last_fault insns) front)

-- the instructions are in order, so that the fault at the end is the first
pub first_of_end : (insns : List Insn) (at : ℕ) → 0 < length insns → length insns ≤ 512 → length insns ≤ at
    → NoneBefore insns at → first_fault insns ≡ slice_get (last_fault insns) 0
first_of_end insns at some few past none =
    let front = none ∙ ap (faults_from at) (drop_all at insns past) in
    ap (λ xs. slice_get xs 0) (faults_if_few insns some few ∙ ap (λ xs. xs ++ last_fault insns) front)

ends_last : (insns : List Insn) (i : Insn) → slice_get insns (length insns - 1) ≡ Some i → ends_in_return insns ≡ returns_answer i
ends_last [] i e = absurd cc
ends_last (j ∷ []) i e = let same : j ≡ i = cc in ap returns_answer same
ends_last (j ∷ k ∷ rest) i e =
    let place : length (j ∷ k ∷ rest) - 1 ≡ suc (length (k ∷ rest) - 1) = omega arith in
    ends_last (k ∷ rest) i (sym (ap (slice_get (j ∷ k ∷ rest)) place) ∙ e)

-- the instructions are in order, and the last one ends the program
pub none_of_end : (insns : List Insn) (at : ℕ) (last : Insn) → length insns ≤ 512 → length insns ≤ at
    → NoneBefore insns at → slice_get insns (length insns - 1) ≡ Some last → returns_answer last ≡ true
    → first_fault insns ≡ None
none_of_end insns at last few past none is_last returns =
    let some : 0 < length insns = omega (arith, slice_get_within insns (length insns - 1) last is_last) in
    first_of_end insns at some few past none ∙ ap (λ ends. slice_get (if ends then [] else (length insns - 1, NoReturn) ∷ []) 0) (ends_last insns last is_last ∙ returns)

-- the instructions are in order, and the last one does not end the program
pub no_return_at_end : (insns : List Insn) (at : ℕ) (last : Insn) → length insns ≤ 512 → length insns ≤ at
    → NoneBefore insns at → slice_get insns (length insns - 1) ≡ Some last → returns_answer last ≡ false
    → first_fault insns ≡ Some (length insns - 1, NoReturn)
no_return_at_end insns at last few past none is_last returns =
    let some : 0 < length insns = omega (arith, slice_get_within insns (length insns - 1) last is_last) in
    first_of_end insns at some few past none ∙ ap (λ ends. slice_get (if ends then [] else (length insns - 1, NoReturn) ∷ []) 0) (ends_last insns last is_last ∙ returns)

-- a program whose first fault is known is not valid
pub not_valid : (insns : List Insn) (at : ℕ) (fault : Fault) → first_fault insns ≡ Some (at, fault) → IsValid insns → ⊥
not_valid insns at fault found valid =
    let none : first_fault insns ≡ None = ap (λ xs. slice_get xs 0) (no_faults_if_valid insns valid) in
    absurd cc
