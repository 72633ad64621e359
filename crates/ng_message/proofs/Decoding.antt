-- What is answered of bytes.
use Rattle.std.proofs.Common.{◌≡◌, ◌≢◌, ◌≤◌, ℕ, true, false, List, ◌++◌, length, take, drop, Some, None, Result, Ok, Err, refl, sym, ap, ◌∙◌, inl, inr, arith}
use Rattle.std.proofs.lemmas.Bool.Decides.{nat_tests}
use Rattle.std.proofs.lemmas.List.{take-append-drop, length-append}
use Rattle.ng_base.specs.declared.ids.NodeId.{NodeId}
use Rattle.ng_message.specs.declared.message.Header.{Header}
use Rattle.ng_message.specs.declared.message.Msg.{Msg}
use Rattle.ng_message.specs.declared.fault.MsgFault.{MsgFault}
use Rattle.ng_message.specs.declared.fault.MsgFault.TheVariants.{Short, BadVersion, BadLength, NoNul, NoMemory}
use Rattle.ng_message.specs.Layout.{header_bytes, message_bytes}
use Rattle.ng_message.specs.Message.{Answers, IsAnswer, IsHeader, IsInForm, IsUnlessNoMemory, has_nul, header_fault}
use Rattle.ng_message.proofs.Headers.{header_at, header_at-header_bytes, drop-header_bytes}

pub fault-bad_version : (header : Header) (had : ℕ) → header.version ≢ 8 → header_fault header had ≡ Some (BadVersion header.version)
fault-bad_version header had other = grind (arith, nat_tests)

pub fault-bad_length : (header : Header) (had : ℕ) → header.version ≡ 8 → header.arglen ≢ had
    → header_fault header had ≡ Some (BadLength header.arglen had)
fault-bad_length header had version other = grind (arith, nat_tests)

pub fault-no_nul : (header : Header) (had : ℕ) → header.version ≡ 8 → header.arglen ≡ had
    → has_nul header.cmdstr ≡ false → header_fault header had ≡ Some NoNul
fault-no_nul header had version arglen nul = grind (arith, nat_tests)

pub fault-none : (header : Header) (had : ℕ) → header.version ≡ 8 → header.arglen ≡ had → has_nul header.cmdstr ≡ true → header_fault header had ≡ None
fault-none header had version arglen nul = grind (arith, nat_tests)

-- the header's bytes and the rest are all of the bytes
pub header_and_rest : (spelled bytes front rest : List ℕ) → front ≡ take 56 bytes → rest ≡ drop 56 bytes → spelled ≡ front → bytes ≡ spelled ++ rest
header_and_rest spelled bytes front rest is_front is_rest same = rw (same, is_front, is_rest) (sym (take-append-drop 56 bytes))

long_enough : (header : Header) (rest : List ℕ) → IsHeader header → 56 ≤ length (header_bytes header ++ rest)
long_enough header rest fits = let own = fits.name_len in omega (arith, length-append header.cmdstr rest)

-- no answer but the message, or that memory ran out, where there is no fault
answer_without_fault : (from : NodeId) (msg : Msg) (result : Result Msg MsgFault)
    → msg.from ≡ from → header_fault msg.header (length msg.args) ≡ None → Answers from msg.header msg.args result → IsUnlessNoMemory msg result
answer_without_fault from msg (Ok found) same none answers = answers.1 ∙ ap (λ (f : NodeId). record { from = f; header = msg.header; args = msg.args }) (sym same)
answer_without_fault from msg (Err NoMemory) same none answers = refl
answer_without_fault from msg (Err (Short n)) same none answers = cc
answer_without_fault from msg (Err (BadVersion v)) same none answers = cc
answer_without_fault from msg (Err (BadLength said had)) same none answers = cc
answer_without_fault from msg (Err NoNul) same none answers = cc

-- a message's bytes have no other answer than the message
pub only_the_message : (from : NodeId) (bytes : List ℕ) (result : Result Msg MsgFault) → IsAnswer from bytes result
    → (msg : Msg) → IsHeader msg.header → IsInForm msg → msg.from ≡ from → message_bytes msg ≡ bytes → IsUnlessNoMemory msg result
only_the_message from bytes result (inl short) msg fits form same spelled =
    let long = long_enough msg.header msg.args fits in absurd (omega (arith, ap length spelled, short.0))
only_the_message from bytes result (inr (header, rest, is_header, whole, answers)) msg fits form same spelled =
    let both : header_bytes msg.header ++ msg.args ≡ header_bytes header ++ rest = spelled ∙ whole in
    let one : msg.header ≡ header = sym (header_at-header_bytes msg.header msg.args fits) ∙ ap header_at both ∙ header_at-header_bytes header rest is_header in
    let behind : msg.args ≡ rest = sym (drop-header_bytes msg.header msg.args fits) ∙ ap (drop 56) both ∙ drop-header_bytes header rest is_header in
    let answers' : Answers from msg.header msg.args result = rw (one, behind) answers in
    answer_without_fault from msg result same (fault-none msg.header (length msg.args) form.version form.arglen form.name_ends) answers'
