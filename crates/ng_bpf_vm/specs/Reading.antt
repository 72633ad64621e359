-- The operations of instructions.
use Rattle.std.specs.Prelude.{◌≡◌, List, [], ◌∷◌, Some}
use Rattle.ng_bpf_vm.specs.declared.instruction.Insn.{Insn}
use Rattle.ng_bpf_vm.specs.declared.operation.Operation.{Operation}
use Rattle.ng_bpf_vm.specs.Codes.{operation_of}

-- these operations are what these instructions say, one for one
abbrev pub AreRead : List Insn → List Operation → Type 0
AreRead [] [] = Unit {0}
AreRead (i ∷ insns) (operation ∷ operations) = (operation_of i ≡ Some operation) × AreRead insns operations
AreRead [] (operation ∷ operations) = ⊥
AreRead (i ∷ insns) [] = ⊥
