-- A valid program comes to an end with an answer.
use Rattle.std.proofs.Common.{◌≡◌, ℕ, zero, suc, ◌<◌, Bool, true, false, List, [], ◌∷◌, length, Option, Some, None, refl, sym, ap, inl, inr, arith}
use Rattle.std.specs.Prelude.{IsTrue, IsSome, nat_lt, if◌then◌else◌}
use Rattle.ng_bpf_vm.specs.declared.instruction.Insn.{Insn}
use Rattle.ng_bpf_vm.specs.declared.operation.Operation.{Operation}
use Rattle.ng_bpf_vm.specs.declared.operation.Operation.TheVariants.{LoadAbsolute, LoadIndirect, LoadConstant, LoadMemory, LoadLength, IndexConstant, IndexMemory, IndexLength, IndexHeaderLength, Store, StoreIndex, Compute, Negate, Jump, Branch, ReturnConstant, ReturnAccumulator, AccumulatorToIndex, IndexToAccumulator}
use Rattle.ng_bpf_vm.specs.declared.machine.Registers.{Registers}
use Rattle.ng_bpf_vm.specs.declared.validity.Fault.TheVariants.{BadWord}
use Rattle.ng_bpf_vm.specs.Codes.{operation_of}
use Rattle.ng_bpf_vm.specs.Effects.{Effect, Goes, Answers, Stuck, value_at, result_of, operand_value, take_value, take_header_length, effect, blank_registers, insn_effect}
use Rattle.ng_bpf_vm.specs.Machine.{follow, answer_after, outcome, lone_return}
use Rattle.ng_bpf_vm.specs.Validity.{operation_fault, EachIsRight, ends_in_return, IsValid}
use Rattle.ng_bpf_vm.proofs.Runs.{fault_of, passed, lands, ends_there}

loaded_goes : (value : Option ℕ) (r : Registers) → take_value value r ≡ Stuck → ⊥
loaded_goes None r e = absurd cc
loaded_goes (Some value) r e = absurd cc

index_goes : (value : Option ℕ) (r : Registers) → take_header_length value r ≡ Stuck → ⊥
index_goes None r e = absurd cc
index_goes (Some value) r e = absurd cc

word_goes : (here : Bool) (r : Registers) → IsTrue here → (if here then Goes 0 r else Stuck) ≡ Stuck → ⊥
word_goes true r h e = absurd cc
word_goes false r h e = absurd cc

-- an operation in order can be obeyed
never_stuck : (o : Operation) (after : ℕ) (packet : List ℕ) (r : Registers) → operation_fault o after ≡ None → effect o packet r ≡ Stuck → ⊥
unfolding effect
never_stuck (LoadAbsolute size at) after packet r right e = loaded_goes (value_at size packet at) r e
never_stuck (LoadIndirect size at) after packet r right e = loaded_goes _ r e
never_stuck (LoadMemory word) after packet r right e = word_goes (nat_lt word 16) _ (passed (nat_lt word 16) BadWord right) e
never_stuck (IndexMemory word) after packet r right e = word_goes (nat_lt word 16) _ (passed (nat_lt word 16) BadWord right) e
never_stuck (IndexHeaderLength at) after packet r right e = index_goes _ r e
never_stuck (Store word) after packet r right e = word_goes (nat_lt word 16) _ (passed (nat_lt word 16) BadWord right) e
never_stuck (StoreIndex word) after packet r right e = word_goes (nat_lt word 16) _ (passed (nat_lt word 16) BadWord right) e
never_stuck (Compute arithmetic operand) after packet r right e = loaded_goes (result_of arithmetic r.accumulator (operand_value operand r.index)) r e
never_stuck (LoadConstant k) after packet r right e = absurd cc
never_stuck LoadLength after packet r right e = absurd cc
never_stuck (IndexConstant k) after packet r right e = absurd cc
never_stuck IndexLength after packet r right e = absurd cc
never_stuck Negate after packet r right e = absurd cc
never_stuck (Jump over) after packet r right e = absurd cc
never_stuck (Branch comparison operand holds fails) after packet r right e = absurd cc
never_stuck (ReturnConstant k) after packet r right e = absurd cc
never_stuck ReturnAccumulator after packet r right e = absurd cc
never_stuck AccumulatorToIndex after packet r right e = absurd cc
never_stuck IndexToAccumulator after packet r right e = absurd cc

-- an instruction in order has an operation, which is in order
some_operation : (found : Option Operation) (after : ℕ) → fault_of found after ≡ None
    → (o : Operation) × (found ≡ Some o) × (operation_fault o after ≡ None)
some_operation None after right = absurd cc
some_operation (Some o) after right = (o, refl, right)

-- what an instruction's effect comes to, where those after it end with an answer
follow_ends : (i : Insn) (rest : List Insn) (packet : List ℕ) (r : Registers) (o : Operation)
    → operation_of i ≡ Some o → operation_fault o (length rest) ≡ None
    → ((over : ℕ) (r' : Registers) → effect o packet r ≡ Goes over r' → IsSome (answer_after rest packet over r'))
    → (e : Effect) → effect o packet r ≡ e → IsSome (follow e (answer_after rest packet))
follow_ends i rest packet r o is_o right on (Goes over r') e = on over r' e
follow_ends i rest packet r o is_o right on (Answers answer) e = refl
follow_ends i rest packet r o is_o right on Stuck e = absurd (never_stuck o (length rest) packet r right e)

insn_ends : (i : Insn) (rest : List Insn) (packet : List ℕ) (r : Registers) (o : Operation)
    → operation_of i ≡ Some o → operation_fault o (length rest) ≡ None
    → ((over : ℕ) (r' : Registers) → effect o packet r ≡ Goes over r' → IsSome (answer_after rest packet over r'))
    → IsSome (follow (insn_effect i packet r) (answer_after rest packet))
insn_ends i rest packet r o is_o right on =
    let same : effect o packet r ≡ insn_effect i packet r = sym (ap (λ x. elim x [ None ↦ Stuck | Some operation ↦ effect operation packet r ]) is_o) in
    follow_ends i rest packet r o is_o right on (insn_effect i packet r) same

-- instructions in order, the last of which ends the program, end with an answer
ends : (insns : List Insn) (packet : List ℕ) (over : ℕ) (r : Registers) → EachIsRight insns
    → IsTrue (ends_in_return insns) → over < length insns → IsSome (answer_after insns packet over r)
ends [] packet over r each last here = absurd (omega arith)
ends (i ∷ []) packet zero r each last here =
    let found = some_operation (operation_of i) 0 each.0 in
    insn_ends i [] packet r found.0 found.1 found.2 (λ over r' e. absurd (ends_there i found.0 packet r over r' last found.1 e))
ends (i ∷ []) packet (suc over) r each last here = absurd (omega arith)
ends (i ∷ j ∷ rest) packet zero r each last here =
    let found = some_operation (operation_of i) (length (j ∷ rest)) each.0 in
    insn_ends i (j ∷ rest) packet r found.0 found.1 found.2
    (λ over r' e. ends (j ∷ rest) packet over r' each.1 last (elim (lands found.0 (length (j ∷ rest)) packet r over r' found.2 e) [ inl next ↦ omega arith | inr within ↦ within ]))
ends (i ∷ j ∷ rest) packet (suc over) r each last here = ends (j ∷ rest) packet over r each.1 last (omega arith)

-- a valid program ends with an answer
pub valid_ends : (program : List Insn) (packet : List ℕ) → IsValid program → IsSome (outcome program packet)
unfolding outcome
valid_ends program packet valid = ends program packet 0 blank_registers valid.each valid.ends valid.some

-- the program of one instruction that returns
pub lone_return_valid : (k : ℕ) → IsValid (lone_return k)
unfolding operation_of
lone_return_valid k = record { some = omega arith; few = omega arith; each = (refl, tt); ends = refl }

pub lone_return_outcome : (k : ℕ) (packet : List ℕ) → outcome (lone_return k) packet ≡ Some k
unfolding operation_of effect outcome
lone_return_outcome k packet = refl
