-- What one instruction does: the machine of bpf(4), whose arithmetic is modulo 2^32.
use Rattle.std.specs.Prelude.{ℕ, ◌+◌, ◌-◌, ◌*◌, ◌/◌, ◌%◌, ◌^◌, Bool, true, not, List, length, take, drop, fold, replicate, Option, Some, None, slice_index, slice_set, nat_lt, nat_le, nat_eq, bit_and, bit_or, bit_xor, if◌then◌else◌}
use Rattle.ng_bpf_vm.specs.declared.instruction.Insn.{Insn}
use Rattle.ng_bpf_vm.specs.declared.machine.Registers.{Registers}
use Rattle.ng_bpf_vm.specs.declared.machine.Next.{Next}
use Rattle.ng_bpf_vm.specs.declared.machine.Next.TheVariants.{Over, Answer}
use Rattle.ng_bpf_vm.specs.declared.operation.Size.{Size}
use Rattle.ng_bpf_vm.specs.declared.operation.Size.TheVariants.{Word, Half, Byte}
use Rattle.ng_bpf_vm.specs.declared.operation.Operand.{Operand}
use Rattle.ng_bpf_vm.specs.declared.operation.Operand.TheVariants.{Constant, Index}
use Rattle.ng_bpf_vm.specs.declared.operation.Arithmetic.{Arithmetic}
use Rattle.ng_bpf_vm.specs.declared.operation.Arithmetic.TheVariants.{Add, Subtract, Multiply, Divide, Or, And, ShiftLeft, ShiftRight, Remainder, Xor}
use Rattle.ng_bpf_vm.specs.declared.operation.Comparison.{Comparison}
use Rattle.ng_bpf_vm.specs.declared.operation.Comparison.TheVariants.{Same, Above, AtLeast, SharesBit}
use Rattle.ng_bpf_vm.specs.declared.operation.Operation.{Operation}
use Rattle.ng_bpf_vm.specs.declared.operation.Operation.TheVariants.{LoadAbsolute, LoadIndirect, LoadConstant, LoadMemory, LoadLength, IndexConstant, IndexMemory, IndexLength, IndexHeaderLength, Store, StoreIndex, Compute, Negate, Jump, Branch, ReturnConstant, ReturnAccumulator, AccumulatorToIndex, IndexToAccumulator}
use Rattle.ng_bpf_vm.specs.Codes.{operation_of}

-- the registers before the first instruction
abbrev pub blank_registers : Registers
blank_registers = record { accumulator = 0; index = 0; memory = replicate 16 0 }

abbrev pub byte_count : Size → ℕ
byte_count Word = 4
byte_count Half = 2
byte_count Byte = 1

-- the number that bytes write, the most significant first
abbrev pub big_endian : List ℕ → ℕ
big_endian bytes = fold (λ number byte. 256 * number + byte) 0 bytes

-- the bytes of the packet from a place on, or none where they are not all there
unfoldable pub value_at : Size → List ℕ → ℕ → Option ℕ
value_at size packet at =
    if nat_le (at + byte_count size) (length packet)
    then Some (big_endian (take (byte_count size) (drop at packet)))
    else None

-- the instruction's constant, or the index register
abbrev pub operand_value : Operand → ℕ → ℕ
operand_value (Constant k) index = k
operand_value Index index = index

-- the operators on 32 bits; there is no quotient and no remainder by 0
unfoldable pub result_of : Arithmetic → ℕ → ℕ → Option ℕ
result_of Add a b = Some ((a + b) % 2 ^ 32)
result_of Subtract a b = Some ((a + (2 ^ 32 - b)) % 2 ^ 32)
result_of Multiply a b = Some ((a * b) % 2 ^ 32)
result_of Divide a b = if nat_eq b 0 then None else Some (a / b)
result_of Or a b = Some (bit_or a b)
result_of And a b = Some (bit_and a b)
result_of ShiftLeft a b = Some (if nat_lt b 32 then (a * 2 ^ b) % 2 ^ 32 else 0)
result_of ShiftRight a b = Some (if nat_lt b 32 then a / 2 ^ b else 0)
result_of Remainder a b = if nat_eq b 0 then None else Some (a % b)
result_of Xor a b = Some (bit_xor a b)

-- the comparisons, of numbers without sign
unfoldable pub compares : Comparison → ℕ → ℕ → Bool
compares Same a b = nat_eq a b
compares Above a b = nat_lt b a
compares AtLeast a b = nat_le b a
compares SharesBit a b = not (nat_eq (bit_and a b) 0)

-- an instruction goes on over so many instructions, answers, or cannot be obeyed
pub data Effect : Type 0 where
  Goes : (over : ℕ) → Registers → Effect
  Answers : (answer : ℕ) → Effect
  Stuck : Effect

-- the accumulator takes the value, or the program answers 0 where there is none
abbrev pub take_value : Option ℕ → Registers → Effect
take_value None r = Answers 0
take_value (Some value) r = Goes 0 (record r { accumulator = value })

-- the index register takes four times the byte's low four bits: the bytes of an IPv4 header that begins with the byte
abbrev pub take_header_length : Option ℕ → Registers → Effect
take_header_length None r = Answers 0
take_header_length (Some byte) r = Goes 0 (record r { index = 4 * (byte % 16) })

-- the effect, if the number is that of a word of scratch memory
abbrev pub if_word : ℕ → Effect → Effect
if_word word e = if nat_lt word 16 then e else Stuck

-- the effect of one operation
unfoldable pub effect : Operation → List ℕ → Registers → Effect
effect (LoadAbsolute size at) packet r = take_value (value_at size packet at) r
effect (LoadIndirect size at) packet r = take_value (value_at size packet (r.index + at)) r
effect (LoadConstant k) packet r = Goes 0 (record r { accumulator = k })
effect (LoadMemory word) packet r = if_word word (Goes 0 (record r { accumulator = slice_index r.memory word }))
effect LoadLength packet r = Goes 0 (record r { accumulator = length packet % 2 ^ 32 })
effect (IndexConstant k) packet r = Goes 0 (record r { index = k })
effect (IndexMemory word) packet r = if_word word (Goes 0 (record r { index = slice_index r.memory word }))
effect IndexLength packet r = Goes 0 (record r { index = length packet % 2 ^ 32 })
effect (IndexHeaderLength at) packet r = take_header_length (value_at Byte packet at) r
effect (Store word) packet r = if_word word (Goes 0 (record r { memory = slice_set r.memory word r.accumulator }))
effect (StoreIndex word) packet r = if_word word (Goes 0 (record r { memory = slice_set r.memory word r.index }))
effect (Compute arithmetic operand) packet r = take_value (result_of arithmetic r.accumulator (operand_value operand r.index)) r
effect Negate packet r = Goes 0 (record r { accumulator = (2 ^ 32 - r.accumulator) % 2 ^ 32 })
effect (Jump over) packet r = Goes over r
effect (Branch comparison operand holds fails) packet r =
    Goes (if compares comparison r.accumulator (operand_value operand r.index) then holds else fails) r
effect (ReturnConstant k) packet r = Answers k
effect ReturnAccumulator packet r = Answers r.accumulator
effect AccumulatorToIndex packet r = Goes 0 (record r { index = r.accumulator })
effect IndexToAccumulator packet r = Goes 0 (record r { accumulator = r.index })

-- the effect of one instruction; one whose code is not in bpf(4) has none
abbrev pub insn_effect : Insn → List ℕ → Registers → Effect
insn_effect i packet r = elim (operation_of i) [
  | None ↦ Stuck
  | Some operation ↦ effect operation packet r
]

-- the effect of a step that leads there and leaves these registers
abbrev pub effect_of_next : Next → Registers → Effect
effect_of_next (Over over) r = Goes over r
effect_of_next (Answer answer) r = Answers answer

-- a word that the operation names is one of the sixteen
abbrev pub names_word : Operation → Bool
names_word (LoadMemory word) = nat_lt word 16
names_word (IndexMemory word) = nat_lt word 16
names_word (Store word) = nat_lt word 16
names_word (StoreIndex word) = nat_lt word 16
names_word _ = true
