-- Which programs are valid, and the faults of the others. By bpf(4) a program has at most 512 instructions, all jumps
-- lead forward and inside it, and its last instruction returns. That an empty program is refused, that instructions
-- which no run reaches are checked too, and the order of the faults are this repository's own.
use Rattle.std.specs.Prelude.{◌≡◌, ◌≤◌, ◌<◌, ℕ, ◌+◌, Bool, false, ◌||◌, ◌&&◌, IsTrue, List, [], ◌∷◌, ◌++◌, length, Option, Some, None, nat_lt, nat_eq, slice_get, if◌then◌else◌}
use Rattle.std.specs.Option.{option_map, option_to_list}
use Rattle.ng_bpf_vm.specs.declared.instruction.Insn.{Insn}
use Rattle.ng_bpf_vm.specs.declared.operation.Operand.TheVariants.{Constant}
use Rattle.ng_bpf_vm.specs.declared.operation.Arithmetic.TheVariants.{Divide, Remainder}
use Rattle.ng_bpf_vm.specs.declared.operation.Operation.{Operation}
use Rattle.ng_bpf_vm.specs.declared.operation.Operation.TheVariants.{LoadMemory, IndexMemory, Store, StoreIndex, Compute, Jump, Branch}
use Rattle.ng_bpf_vm.specs.declared.validity.Fault.{Fault}
use Rattle.ng_bpf_vm.specs.declared.validity.Fault.TheVariants.{Empty, TooLong, UnknownCode, JumpOut, BadWord, ZeroDivisor, NoReturn}
use Rattle.ng_bpf_vm.specs.Codes.{operation_of}

-- no fault if the test holds
abbrev pub unless : Bool → Fault → Option Fault
unless test fault = if test then None else Some fault

-- the fault of an operation that so many instructions follow
abbrev pub operation_fault : Operation → ℕ → Option Fault
operation_fault (Jump over) after = unless (nat_lt over after) JumpOut
operation_fault (Branch comparison operand holds fails) after = unless (nat_lt holds after && nat_lt fails after) JumpOut
operation_fault (LoadMemory word) after = unless (nat_lt word 16) BadWord
operation_fault (IndexMemory word) after = unless (nat_lt word 16) BadWord
operation_fault (Store word) after = unless (nat_lt word 16) BadWord
operation_fault (StoreIndex word) after = unless (nat_lt word 16) BadWord
operation_fault (Compute Divide (Constant k)) after = unless (nat_lt 0 k) ZeroDivisor
operation_fault (Compute Remainder (Constant k)) after = unless (nat_lt 0 k) ZeroDivisor
operation_fault _ after = None

-- the fault of an instruction that so many follow
abbrev pub insn_fault : Insn → ℕ → Option Fault
insn_fault i after = elim (operation_of i) [
  | None ↦ Some UnknownCode
  | Some operation ↦ operation_fault operation after
]

-- each instruction is right, given how many follow it
abbrev pub EachIsRight : List Insn → Type 0
EachIsRight [] = Unit {0}
EachIsRight (i ∷ rest) = (insn_fault i (length rest) ≡ None) × EachIsRight rest

-- the two codes that end a program
abbrev pub returns_answer : Insn → Bool
returns_answer i = nat_eq i.code 0x06 || nat_eq i.code 0x16

-- the last instruction ends the program
abbrev pub ends_in_return : List Insn → Bool
ends_in_return [] = false
ends_in_return (i ∷ []) = returns_answer i
ends_in_return (i ∷ j ∷ rest) = ends_in_return (j ∷ rest)

-- a valid program
pub record IsValid (program : List Insn) : Type 0 where
  pub some : 0 < length program
  pub few : length program ≤ 512
  pub each : EachIsRight program
  pub ends : IsTrue (ends_in_return program)

-- the faults of the instructions from this place on
abbrev pub faults_from : ℕ → List Insn → List (ℕ × Fault)
faults_from at [] = []
faults_from at (i ∷ rest) = option_to_list (option_map (λ fault. (at, fault)) (insn_fault i (length rest))) ++ faults_from (at + 1) rest

-- a program's faults, each with its place, in the order in which they are looked for
abbrev pub faults : List Insn → List (ℕ × Fault)
faults [] = (0, Empty) ∷ []
faults (i ∷ rest) =
    let program = i ∷ rest in
    (if nat_lt 512 (length program) then (length program, TooLong) ∷ [] else [])
    ++ faults_from 0 program
    ++ (if ends_in_return program then [] else (length rest, NoReturn) ∷ [])

-- the fault that comes first, if there is one
abbrev pub first_fault : List Insn → Option (ℕ × Fault)
first_fault program = slice_get (faults program) 0
