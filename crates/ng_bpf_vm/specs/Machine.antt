-- What a program answers on a packet.
use Rattle.std.specs.Prelude.{ℕ, zero, suc, List, [], ◌∷◌, Option, Some, None, unwrap_or}
use Rattle.ng_bpf_vm.specs.declared.instruction.Insn.{Insn}
use Rattle.ng_bpf_vm.specs.declared.machine.Registers.{Registers}
use Rattle.ng_bpf_vm.specs.Effects.{Effect, Goes, Answers, Stuck, insn_effect, blank_registers}

-- what an effect comes to, given what the instructions after it come to
abbrev pub follow : Effect → (ℕ → Registers → Option ℕ) → Option ℕ
follow (Goes over r) rest = rest over r
follow (Answers answer) rest = Some answer
follow Stuck rest = None

-- The answer of these instructions, after so many of them are passed over; nothing where an instruction cannot be
-- obeyed, or where there is none. Each jump leads forward, so that one pass over the list is enough.
abbrev pub answer_after : List Insn → List ℕ → ℕ → Registers → Option ℕ
answer_after [] packet over r = None
answer_after (i ∷ rest) packet zero r = follow (insn_effect i packet r) (answer_after rest packet)
answer_after (i ∷ rest) packet (suc over) r = answer_after rest packet over r

-- the answer of a program on a packet, or nothing where it is stuck on the way
unfoldable pub outcome : List Insn → List ℕ → Option ℕ
outcome program packet = answer_after program packet 0 blank_registers

-- the answer of a program that is not stuck
abbrev pub answer_of : List Insn → List ℕ → ℕ
answer_of program packet = unwrap_or (outcome program packet) 0

-- the program of one instruction, which answers this number
abbrev pub lone_return : ℕ → List Insn
lone_return k = record { code = 0x06; jt = 0; jf = 0; k = k } ∷ []
