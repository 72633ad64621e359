-- A run of operations follows the machine over the instructions.
use Rattle.std.proofs.Common.{◌≡◌, ℕ, zero, suc, ◌<◌, ◌+◌, Bool, true, false, ◌&&◌, List, [], ◌∷◌, ◌++◌, length, take, drop, get_or, Option, Some, None, refl, sym, ap, ◌∙◌, subst, ◌⊎◌, inl, inr, arith}
use Rattle.std.specs.Prelude.{IsTrue, IsSome, nat_lt, if◌then◌else◌}
use Rattle.std.specs.Option.{is_some}
use Rattle.std.proofs.lemmas.Bool.Decides.{nat_tests}
use Rattle.std.proofs.lemmas.List.{take_more, drop_more, drop-drop, length-drop}
use Rattle.ng_bpf_vm.specs.declared.instruction.Insn.{Insn}
use Rattle.ng_bpf_vm.specs.declared.operation.Operation.{Operation}
use Rattle.ng_bpf_vm.specs.declared.operation.Operation.TheVariants.{LoadAbsolute, LoadIndirect, LoadConstant, LoadMemory, LoadLength, IndexConstant, IndexMemory, IndexLength, IndexHeaderLength, Store, StoreIndex, Compute, Negate, Jump, Branch, ReturnConstant, ReturnAccumulator, AccumulatorToIndex, IndexToAccumulator}
use Rattle.ng_bpf_vm.specs.declared.machine.Registers.{Registers}
use Rattle.ng_bpf_vm.specs.declared.validity.Fault.{Fault}
use Rattle.ng_bpf_vm.specs.declared.validity.Fault.TheVariants.{UnknownCode, JumpOut, BadWord}
use Rattle.ng_bpf_vm.specs.Codes.{operation_of}
use Rattle.ng_bpf_vm.specs.Effects.{Goes, Answers, Stuck, value_at, result_of, compares, operand_value, take_value, take_header_length, effect, names_word, insn_effect, blank_registers}
use Rattle.ng_bpf_vm.specs.Machine.{follow, answer_after, outcome}
use Rattle.ng_bpf_vm.specs.Reading.{AreRead}
use Rattle.ng_bpf_vm.specs.Validity.{unless, operation_fault, EachIsRight, returns_answer, ends_in_return, IsValid}

-- what is wrong with an operation, if there is one
abbrev pub fault_of : Option Operation → ℕ → Option Fault
fault_of o after = elim o [ None ↦ Some UnknownCode | Some operation ↦ operation_fault operation after ]

-- an instruction in order has an operation
pub some_if_right : (o : Option Operation) (after : ℕ) → fault_of o after ≡ None → is_some o ≡ true
some_if_right None after right = absurd cc
some_if_right (Some operation) after right = refl

-- so has each instruction of a list in order
pub read_within : (insns : List Insn) (at : ℕ) (d : Insn) → EachIsRight insns → at < length insns → IsSome (operation_of (get_or insns at d))
read_within [] at d right here = absurd (omega arith)
read_within (i ∷ rest) zero d right here = some_if_right (operation_of i) (length rest) right.0
read_within (i ∷ rest) (suc at) d right here = read_within rest at d right.1 (omega arith)

-- one more instruction with its operation
read_more : (insns : List Insn) (operations : List Operation) (i : Insn) (operation : Operation)
    → AreRead insns operations → operation_of i ≡ Some operation
    → AreRead (insns ++ i ∷ []) (operations ++ operation ∷ [])
read_more [] [] i operation read e = (e, tt)
read_more (j ∷ insns) (o ∷ operations) i operation read e = (read.0, read_more insns operations i operation read.1 e)
read_more [] (o ∷ operations) i operation read e = absurd read
read_more (j ∷ insns) [] i operation read e = absurd read

pub read_on : (insns : List Insn) (at : ℕ) (d : Insn) (operations : List Operation) (operation : Operation)
    → at < length insns → AreRead (take at insns) operations
    → operation_of (get_or insns at d) ≡ Some operation
    → AreRead (take (at + 1) insns) (operations ++ operation ∷ [])
read_on insns at d operations operation here read e =
    subst (λ xs. AreRead xs (operations ++ operation ∷ [])) (sym (take_more insns at d here)) (read_more (take at insns) operations (get_or insns at d) operation read e)

-- instructions in order, with their operations
pub record Going (insns : List Insn) (operations : List Operation) : Type 0 where
  pub each : EachIsRight insns
  pub ends : IsTrue (ends_in_return insns)
  pub read : AreRead insns operations

-- a run that has come to this place with these registers
pub record Running (insns : List Insn) (operations : List Operation) (packet : List ℕ) (at : ℕ) (registers : Registers) : Type 0 where
  pub in_range : at < length operations
  pub going : Going (drop at insns) (drop at operations)
  pub same : answer_after (drop at insns) packet 0 registers ≡ outcome insns packet

-- a test that holds
pub passed : (test : Bool) (fault : Fault) → unless test fault ≡ None → IsTrue test
passed true fault e = refl
passed false fault e = absurd cc

-- an operation in order names one of the sixteen words, if it names one
pub names_one : (o : Operation) (after : ℕ) → operation_fault o after ≡ None → IsTrue (names_word o)
names_one (LoadMemory word) after e = passed (nat_lt word 16) BadWord e
names_one (IndexMemory word) after e = passed (nat_lt word 16) BadWord e
names_one (Store word) after e = passed (nat_lt word 16) BadWord e
names_one (StoreIndex word) after e = passed (nat_lt word 16) BadWord e
names_one _ after e = refl

goes_next : (over : ℕ) (r r' : Registers) → Goes 0 r ≡ Goes over r' → over ≡ 0
goes_next over r r' e = cc

loaded_next : (value : Option ℕ) (over : ℕ) (r r' : Registers) → take_value value r ≡ Goes over r' → over ≡ 0
loaded_next None over r r' e = absurd cc
loaded_next (Some value) over r r' e = cc

index_next : (value : Option ℕ) (over : ℕ) (r r' : Registers) → take_header_length value r ≡ Goes over r' → over ≡ 0
index_next None over r r' e = absurd cc
index_next (Some value) over r r' e = cc

word_next : (here : Bool) (over : ℕ) (r r' : Registers) → (if here then Goes 0 r else Stuck) ≡ Goes over r' → over ≡ 0
word_next true over r r' e = cc
word_next false over r r' e = absurd cc

one_of : (test : Bool) (holds fails after over : ℕ) (r r' : Registers)
    → IsTrue (nat_lt holds after && nat_lt fails after)
    → Goes (if test then holds else fails) r ≡ Goes over r' → over < after
one_of true holds fails after over r r' inside e = let same : holds ≡ over = cc in grind (arith, nat_tests)
one_of false holds fails after over r r' inside e = let same : fails ≡ over = cc in grind (arith, nat_tests)

-- an operation in order leads to the next instruction, or over fewer than there are
pub lands : (o : Operation) (after : ℕ) (packet : List ℕ) (r : Registers) (over : ℕ) (r' : Registers)
    → operation_fault o after ≡ None → effect o packet r ≡ Goes over r' → (over ≡ 0) ⊎ (over < after)
unfolding effect
lands (LoadAbsolute size at) after packet r over r' right e = inl (loaded_next (value_at size packet at) over r r' e)
lands (LoadIndirect size at) after packet r over r' right e = inl (loaded_next (value_at size packet (r.index + at)) over r r' e)
lands (LoadMemory word) after packet r over r' right e = inl (word_next (nat_lt word 16) over _ r' e)
lands (IndexMemory word) after packet r over r' right e = inl (word_next (nat_lt word 16) over _ r' e)
lands (IndexHeaderLength at) after packet r over r' right e = inl (index_next _ over r r' e)
lands (Store word) after packet r over r' right e = inl (word_next (nat_lt word 16) over _ r' e)
lands (StoreIndex word) after packet r over r' right e = inl (word_next (nat_lt word 16) over _ r' e)
lands (Compute arithmetic operand) after packet r over r' right e = inl (loaded_next (result_of arithmetic r.accumulator (operand_value operand r.index)) over r r' e)
lands (Jump to) after packet r over r' right e =
    let inside = passed (nat_lt to after) JumpOut right in
    let same : to ≡ over = cc in
    inr (grind (arith, nat_tests))
lands (Branch comparison operand holds fails) after packet r over r' right e =
    inr (one_of (compares comparison r.accumulator (operand_value operand r.index)) holds fails after over r r' (passed _ JumpOut right) e)
lands (ReturnConstant k) after packet r over r' right e = absurd cc
lands ReturnAccumulator after packet r over r' right e = absurd cc
lands LoadLength after packet r over r' right e = inl (goes_next over _ r' e)
lands (LoadConstant k) after packet r over r' right e = inl (goes_next over _ r' e)
lands (IndexConstant k) after packet r over r' right e = inl (goes_next over _ r' e)
lands IndexLength after packet r over r' right e = inl (goes_next over _ r' e)
lands Negate after packet r over r' right e = inl (goes_next over _ r' e)
lands AccumulatorToIndex after packet r over r' right e = inl (goes_next over _ r' e)
lands IndexToAccumulator after packet r over r' right e = inl (goes_next over _ r' e)

-- the two codes that answer
constant_returned : (code jt jf k : ℕ) → code ≡ 0x06 → operation_of (record { code = code; jt = jt; jf = jf; k = k }) ≡ Some (ReturnConstant k)
unfolding operation_of
constant_returned code jt jf k e = rw e refl

accumulator_returned : (code jt jf k : ℕ) → code ≡ 0x16 → operation_of (record { code = code; jt = jt; jf = jf; k = k }) ≡ Some ReturnAccumulator
unfolding operation_of
accumulator_returned code jt jf k e = rw e refl

-- an instruction that ends a program leads nowhere
pub ends_there : (i : Insn) (o : Operation) (packet : List ℕ) (r : Registers) (over : ℕ) (r' : Registers)
    → IsTrue (returns_answer i) → operation_of i ≡ Some o → effect o packet r ≡ Goes over r' → ⊥
unfolding effect
ends_there i o packet r over r' returns is_o goes =
    let which : (i.code ≡ 0x06) ⊎ (i.code ≡ 0x16) = grind (arith, nat_tests) in
    elim which [
      | inl six ↦
          let is_return : o ≡ ReturnConstant i.k = let e = constant_returned i.code i.jt i.jf i.k six in cc in
          let e : Answers i.k ≡ Goes over r' = sym (ap (λ p. effect p packet r) is_return) ∙ goes in
          absurd cc
      | inr other ↦
          let is_return : o ≡ ReturnAccumulator = let e = accumulator_returned i.code i.jt i.jf i.k other in cc in
          let e : Answers r.accumulator ≡ Goes over r' = sym (ap (λ p. effect p packet r) is_return) ∙ goes in
          absurd cc
    ]

-- the rest of a list in order is in order
going_drop : (n : ℕ) (insns : List Insn) (operations : List Operation) → n < length insns
    → Going insns operations → Going (drop n insns) (drop n operations)
going_drop zero insns operations here g = g
going_drop (suc n) [] operations here g = absurd (omega arith)
going_drop (suc n) (i ∷ rest) [] here g = absurd g.read
going_drop (suc n) (i ∷ []) (o ∷ operations) here g = absurd (omega arith)
going_drop (suc n) (i ∷ j ∷ rest) (o ∷ operations) here g =
    going_drop n (j ∷ rest) operations (omega arith) (record { each = g.each.1; ends = g.ends; read = g.read.1 })

same_length : (insns : List Insn) (operations : List Operation) → AreRead insns operations → length insns ≡ length operations
same_length [] [] read = refl
same_length (i ∷ insns) (o ∷ operations) read = ap suc (same_length insns operations read.1)
same_length [] (o ∷ operations) read = absurd read
same_length (i ∷ insns) [] read = absurd read

-- instructions that are passed over have no part in the answer
passed_over : (over : ℕ) (insns : List Insn) (packet : List ℕ) (r : Registers)
    → answer_after insns packet over r ≡ answer_after (drop over insns) packet 0 r
passed_over zero insns packet r = refl
passed_over (suc over) [] packet r = refl
passed_over (suc over) (i ∷ rest) packet r = passed_over over rest packet r

-- what is to be shown of a list after one of its operations
record Goes_on (insns : List Insn) (operations : List Operation) (packet : List ℕ) (r : Registers) (over : ℕ) (r' : Registers) : Type 0 where
  within : over < length operations
  going : Going (drop (suc over) insns) (drop over operations)
  same : answer_after (drop (suc over) insns) packet 0 r' ≡ answer_after insns packet 0 r

-- the effect of an instruction is that of its operation
effect_read : (i : Insn) (o : Operation) (packet : List ℕ) (r : Registers) → operation_of i ≡ Some o → insn_effect i packet r ≡ effect o packet r
effect_read i o packet r e = ap (λ x. elim x [ None ↦ Stuck | Some operation ↦ effect operation packet r ]) e

going_over : (insns : List Insn) (o : Operation) (operations : List Operation) (packet : List ℕ) (r : Registers) (over : ℕ) (r' : Registers)
    → Going insns (o ∷ operations) → effect o packet r ≡ Goes over r'
    → Goes_on insns operations packet r over r'
going_over [] o operations packet r over r' g goes = absurd g.read
going_over (i ∷ []) o operations packet r over r' g goes = absurd (ends_there i o packet r over r' g.ends g.read.0 goes)
going_over (i ∷ j ∷ rest) o operations packet r over r' g goes =
    let right : operation_fault o (length (j ∷ rest)) ≡ None = sym (ap (λ x. fault_of x (length (j ∷ rest))) g.read.0) ∙ g.each.0 in
    let far : over < length (j ∷ rest) = elim (lands o (length (j ∷ rest)) packet r over r' right goes) [ inl e ↦ omega arith | inr lt ↦ lt ] in
    let lengths = same_length (j ∷ rest) operations g.read.1 in
    let step : insn_effect i packet r ≡ Goes over r' = effect_read i o packet r g.read.0 ∙ goes in
    record {
      within = omega (arith, lengths, far);
      going = going_drop over (j ∷ rest) operations far (record { each = g.each.1; ends = g.ends; read = g.read.1 });
      same = sym (ap (λ e. follow e (answer_after (j ∷ rest) packet)) step ∙ passed_over over (j ∷ rest) packet r');
    }

-- the list from a place on, which is inside it
going_at : (insns : List Insn) (operations : List Operation) (at : ℕ) (d : Operation) → at < length operations
    → Going (drop at insns) (drop at operations)
    → Going (drop at insns) (get_or operations at d ∷ drop (at + 1) operations)
going_at insns operations at d here g = subst (λ os. Going (drop at insns) os) (drop_more operations at d here) g

-- before the first instruction
pub running_first : (insns : List Insn) (operations : List Operation) (packet : List ℕ) → IsValid insns
    → AreRead insns operations → Running insns operations packet 0 blank_registers
unfolding outcome
running_first insns operations packet valid read = record {
  in_range = let some = valid.some in omega (arith, same_length insns operations read);
  going = record { each = valid.each; ends = valid.ends; read = read };
  same = refl;
}

head_word : (insns : List Insn) (o : Operation) (operations : List Operation) → Going insns (o ∷ operations) → IsTrue (names_word o)
head_word [] o operations g = absurd g.read
head_word (i ∷ rest) o operations g =
    names_one o (length rest) (sym (ap (λ x. fault_of x (length rest)) g.read.0) ∙ g.each.0)

-- the operation at this place names one of the sixteen words, if it names one
pub running_word : (insns : List Insn) (operations : List Operation) (packet : List ℕ) (at : ℕ) (r : Registers) (d : Operation)
    → Running insns operations packet at r → IsTrue (names_word (get_or operations at d))
running_word insns operations packet at r d run =
    head_word (drop at insns) (get_or operations at d) (drop (at + 1) operations) (going_at insns operations at d run.in_range run.going)

-- the run goes on to another place
pub running_over : (insns : List Insn) (operations : List Operation) (packet : List ℕ) (at : ℕ) (r : Registers) (d : Operation) (over : ℕ) (r' : Registers)
    → Running insns operations packet at r → Goes over r' ≡ effect (get_or operations at d) packet r
    → Running insns operations packet (at + (1 + over)) r'
running_over insns operations packet at r d over r' run goes =
    let on = going_over (drop at insns) (get_or operations at d) (drop (at + 1) operations) packet r over r' (going_at insns operations at d run.in_range run.going) (sym goes) in
    let insns_there : drop (suc over) (drop at insns) ≡ drop (at + (1 + over)) insns = let e : at + suc over ≡ at + (1 + over) = omega arith in drop-drop (suc over) at insns ∙ ap (λ n. drop n insns) e in
    let operations_there : drop over (drop (at + 1) operations) ≡ drop (at + (1 + over)) operations = let e : at + 1 + over ≡ at + (1 + over) = omega arith in drop-drop over (at + 1) operations ∙ ap (λ n. drop n operations) e in
    record {
      in_range = omega (arith, on.within, length-drop (at + 1) operations);
      going = subst (λ is. Going is (drop (at + (1 + over)) operations)) insns_there (subst (λ os. Going (drop (suc over) (drop at insns)) os) operations_there on.going);
      same = sym (ap (λ is. answer_after is packet 0 r') insns_there) ∙ on.same ∙ run.same;
    }

head_answer : (insns : List Insn) (o : Operation) (operations : List Operation) (packet : List ℕ) (r : Registers) (answer : ℕ)
    → Going insns (o ∷ operations) → effect o packet r ≡ Answers answer
    → answer_after insns packet 0 r ≡ Some answer
head_answer [] o operations packet r answer g e = absurd g.read
head_answer (i ∷ rest) o operations packet r answer g e =
    ap (λ x. follow x (answer_after rest packet)) (effect_read i o packet r g.read.0 ∙ e)

-- the run ends with the machine's answer
pub running_answer : (insns : List Insn) (operations : List Operation) (packet : List ℕ) (at : ℕ) (r : Registers) (d : Operation) (answer : ℕ)
    → Running insns operations packet at r → Answers answer ≡ effect (get_or operations at d) packet r
    → outcome insns packet ≡ Some answer
running_answer insns operations packet at r d answer run e =
    sym run.same ∙ head_answer (drop at insns) (get_or operations at d) (drop (at + 1) operations) packet r answer (going_at insns operations at d run.in_range run.going) (sym e)
