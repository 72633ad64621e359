-- What each code of an instruction stands for: the instruction set of bpf(4).
use Rattle.std.specs.Prelude.{ℕ, ◌-◌, List, [], ◌∷◌, Option, Some, None, nat_lt, nat_eq, if◌then◌else◌}
use Rattle.std.specs.Option.{option_or, option_map}
use Rattle.ng_bpf_vm.specs.declared.instruction.Insn.{Insn}
use Rattle.ng_bpf_vm.specs.declared.operation.Size.TheVariants.{Word, Half, Byte}
use Rattle.ng_bpf_vm.specs.declared.operation.Operand.{Operand}
use Rattle.ng_bpf_vm.specs.declared.operation.Operand.TheVariants.{Constant, Index}
use Rattle.ng_bpf_vm.specs.declared.operation.Arithmetic.{Arithmetic}
use Rattle.ng_bpf_vm.specs.declared.operation.Arithmetic.TheVariants.{Add, Subtract, Multiply, Divide, Or, And, ShiftLeft, ShiftRight, Remainder, Xor}
use Rattle.ng_bpf_vm.specs.declared.operation.Comparison.{Comparison}
use Rattle.ng_bpf_vm.specs.declared.operation.Comparison.TheVariants.{Same, Above, AtLeast, SharesBit}
use Rattle.ng_bpf_vm.specs.declared.operation.Operation.{Operation}
use Rattle.ng_bpf_vm.specs.declared.operation.Operation.TheVariants.{LoadAbsolute, LoadIndirect, LoadConstant, LoadMemory, LoadLength, IndexConstant, IndexMemory, IndexLength, IndexHeaderLength, Store, StoreIndex, Compute, Negate, Jump, Branch, ReturnConstant, ReturnAccumulator, AccumulatorToIndex, IndexToAccumulator}

-- the row of a table that has the code
abbrev pub row_of : {R : Type 0} → ℕ → List (ℕ × R) → Option R
row_of code [] = None
row_of code (row ∷ rows) = if nat_eq code row.0 then Some row.1 else row_of code rows

-- loads into the accumulator, by place, by index and place, a constant, a word and the length
abbrev pub load_of : Insn → Option Operation
load_of i = row_of i.code (
    (0x20, LoadAbsolute Word i.k) ∷ (0x28, LoadAbsolute Half i.k) ∷ (0x30, LoadAbsolute Byte i.k)
    ∷ (0x40, LoadIndirect Word i.k) ∷ (0x48, LoadIndirect Half i.k) ∷ (0x50, LoadIndirect Byte i.k)
    ∷ (0x00, LoadConstant i.k) ∷ (0x60, LoadMemory i.k) ∷ (0x80, LoadLength) ∷ [])

-- loads into the index register
abbrev pub index_load_of : Insn → Option Operation
index_load_of i = row_of i.code (
    (0x01, IndexConstant i.k) ∷ (0x61, IndexMemory i.k) ∷ (0x81, IndexLength) ∷ (0xb1, IndexHeaderLength i.k) ∷ [])

-- the operators, by the code whose operand is the instruction's constant
abbrev pub arithmetic_of : ℕ → Option Arithmetic
arithmetic_of code = row_of code (
    (0x04, Add) ∷ (0x14, Subtract) ∷ (0x24, Multiply) ∷ (0x34, Divide) ∷ (0x44, Or) ∷ (0x54, And)
    ∷ (0x64, ShiftLeft) ∷ (0x74, ShiftRight) ∷ (0x94, Remainder) ∷ (0xa4, Xor) ∷ [])

-- the comparisons, by the code whose operand is the instruction's constant
abbrev pub comparison_of : ℕ → Option Comparison
comparison_of code = row_of code ((0x15, Same) ∷ (0x25, Above) ∷ (0x35, AtLeast) ∷ (0x45, SharesBit) ∷ [])

-- what a table has for the code with the constant as operand, or for the code 8 below with the index register
abbrev pub with_operand : {R : Type 0} → (ℕ → Option R) → (R → Operand → Operation) → Insn → Option Operation
with_operand table make i =
    option_or (option_map (λ row. make row (Constant i.k)) (table i.code))
    (if nat_lt i.code 8 then None else option_map (λ row. make row Index) (table (i.code - 8)))

abbrev pub compute_of : Insn → Option Operation
compute_of i = with_operand arithmetic_of Compute i

abbrev pub branch_of : Insn → Option Operation
branch_of i = with_operand comparison_of (λ comparison operand. Branch comparison operand i.jt i.jf) i

-- stores, the change of sign, the jump, the two answers and the copies between the registers
abbrev pub plain_of : Insn → Option Operation
plain_of i = row_of i.code (
    (0x02, Store i.k) ∷ (0x03, StoreIndex i.k) ∷ (0x84, Negate) ∷ (0x05, Jump i.k) ∷ (0x06, ReturnConstant i.k)
    ∷ (0x16, ReturnAccumulator) ∷ (0x07, AccumulatorToIndex) ∷ (0x87, IndexToAccumulator) ∷ [])

-- what an instruction says, or nothing where its code is not in bpf(4)
unfoldable pub operation_of : Insn → Option Operation
operation_of i = option_or (load_of i) (option_or (index_load_of i) (option_or (compute_of i) (option_or (branch_of i) (plain_of i))))
