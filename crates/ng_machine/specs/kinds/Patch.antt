-- ng_patch(4): a packet that comes by in is changed by the operations in order and goes out of out, or back out of in where
-- out isn't there; one that comes by out goes out of in. That an operation past the packet's end changes nothing, and what
-- shifts do, is this project's choice.
use Rattle.std.specs.Prelude.{ℕ, zero, suc, ◌+◌, ◌-◌, ◌*◌, ◌/◌, ◌%◌, ◌^◌, Bool, true, false, not, ◌==◌, ◌&&◌, ◌||◌, nat_lt, nat_le, if◌then◌else◌, List, [], ◌∷◌, ◌++◌, length, take, drop, bit_and, bit_or, bit_xor, slice_index_or}
use Rattle.std.specs.List.{fold, list_all, flat_map}
use Rattle.std.specs.Str.{bytes_eq}
use Rattle.byteorder.specs.Endian.{little_bytes, big_number, big_bytes}
use Rattle.ng_base.specs.declared.errno.Errno.{Errno}
use Rattle.ng_base.specs.Names.{has_name}
use Rattle.ng_machine.specs.declared.body.Door.{Door}
use Rattle.ng_machine.specs.declared.body.Door.TheVariants.{Wire, Hook}
use Rattle.ng_machine.specs.declared.outcome.Outcome.{Outcome}
use Rattle.ng_machine.specs.declared.plan.PatchOp.{PatchOp}
use Rattle.ng_machine.specs.Errors.{einval}
use Rattle.ng_machine.specs.Names.{in_hook, out_hook}
use Rattle.ng_machine.specs.Arguments.{number_at}
use Rattle.ng_machine.specs.Outcome.{nothing, sends_by, Reply, sets, answers, with_length, unless, by_number}

-- Operations on the number x of a packet with the value v, both of w bits; the result is taken modulo 2^w

abbrev pub shift_left : Bool → ℕ → ℕ → ℕ
shift_left true x v = x * 2 ^ v
shift_left false x v = x

abbrev pub shift_right : Bool → ℕ → ℕ → ℕ
shift_right true x v = x / 2 ^ v
shift_right false x v = x

-- set, add, subtract, multiply, divide, negate, and, or, exclusive or, shift left, shift right: the modes from 1 on
abbrev pub modes : ℕ → List (ℕ → ℕ → ℕ)
modes w =
    (λ x v. v)
    ∷ (λ x v. x + v)
    ∷ (λ x v. x + (2 ^ w - v))
    ∷ (λ x v. x * v)
    ∷ (λ x v. x / v)
    ∷ (λ x v. 2 ^ w - x)
    ∷ (λ x v. bit_and x v)
    ∷ (λ x v. bit_or x v)
    ∷ (λ x v. bit_xor x v)
    ∷ (λ x v. shift_left (nat_lt v w) x v)
    ∷ (λ x v. shift_right (nat_lt v w) x v)
    ∷ []

abbrev pub width : PatchOp → ℕ
width op = 8 * op.length

abbrev pub operation_result : PatchOp → ℕ → ℕ
operation_result op x = slice_index_or (modes (width op)) (op.mode - 1) (λ y v. y) x (op.value % 2 ^ width op) % 2 ^ width op

-- where the operation's bytes are in the packet
abbrev pub patch_if : Bool → List ℕ → PatchOp → List ℕ
patch_if true packet op =
    take op.offset packet
    ++ big_bytes op.length (operation_result op (big_number op.length (drop op.offset packet)))
    ++ drop (op.offset + op.length) packet
patch_if false packet op = packet

abbrev pub patch_by : List ℕ → PatchOp → List ℕ
patch_by packet op = patch_if (nat_le (op.offset + op.length) (length packet)) packet op

abbrev pub patches : List (List ℕ) → List PatchOp → Door → List ℕ → Outcome
patches hooks ops (Hook hook) packet =
    if bytes_eq hook out_hook then sends_by hooks in_hook packet
    else if has_name hooks out_hook then sends_by hooks out_hook (fold patch_by packet ops)
    else sends_by hooks in_hook (fold patch_by packet ops)
patches hooks ops Wire packet = nothing

-- Messages

abbrev pub is_op : PatchOp → Bool
is_op op =
    ((op.length == 1 || op.length == 2) || (op.length == 4 || op.length == 8))
    && (nat_le 1 op.mode && nat_le op.mode 11)
    && not (op.mode == 5 && op.value % 2 ^ width op == 0)

-- { offset length mode value }: 4, 2, 2 and 8 bytes
abbrev pub op_in : List ℕ → PatchOp
op_in bytes = record { offset = number_at 4 bytes 0; length = number_at 2 bytes 4; mode = number_at 2 bytes 6; value = number_at 8 bytes 8 }

abbrev pub ops_in : ℕ → List ℕ → List PatchOp
ops_in zero bytes = []
ops_in (suc n) bytes = op_in bytes ∷ ops_in n (drop 16 bytes)

-- { count csum_flags ops }: 4 and 4 bytes, and 16 for each of at most 128 operations
abbrev pub has_ops : List ℕ → Bool
has_ops args = nat_le 8 (length args) && (length args == 8 + 16 * number_at 4 args 0) && nat_le (number_at 4 args 0) 128

abbrev pub ops_of : List ℕ → List PatchOp
ops_of args = ops_in ((length args - 8) / 16) (drop 8 args)

abbrev pub ops_refusals : List PatchOp → List ℕ → List (Bool × Errno)
ops_refusals s args =
    (not (has_ops args), einval)
    ∷ (not (number_at 4 args 4 == 0), einval)
    ∷ (not (list_all is_op (ops_of args)), einval)
    ∷ []

abbrev pub set_ops : List PatchOp → List ℕ → Reply (List PatchOp)
set_ops s args = unless s (ops_refusals s args) (sets (ops_of args))

abbrev pub op_bytes : PatchOp → List ℕ
op_bytes op = little_bytes 4 op.offset ++ little_bytes 2 op.length ++ little_bytes 2 op.mode ++ little_bytes 8 op.value

abbrev pub ops_bytes : List PatchOp → List ℕ
ops_bytes ops = little_bytes 4 (length ops) ++ little_bytes 4 0 ++ flat_map op_bytes ops

-- setconfig 1, getconfig 2 (NGM_PATCH_SETCONFIG and NGM_PATCH_GETCONFIG)
abbrev pub patch_messages : List PatchOp → List ℕ → List (ℕ × Reply (List PatchOp))
patch_messages s args =
    (1, set_ops s args)
    ∷ (0x30000002, with_length s 0 args (answers s (ops_bytes s)))
    ∷ []

abbrev pub patch_message : List PatchOp → ℕ → List ℕ → Reply (List PatchOp)
patch_message s number args = by_number s number (patch_messages s args)
