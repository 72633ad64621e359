-- ng_bpf(4): the program of the hook that a packet comes by decides which of two hooks it goes out of. A new hook has the
-- program that answers 0, and no targets. That a target need not be there is this project's choice.
use Rattle.std.specs.Prelude.{ℕ, zero, suc, ◌+◌, ◌-◌, ◌*◌, ◌/◌, Bool, true, not, ◌==◌, ◌&&◌, nat_le, if◌then◌else◌, List, [], ◌∷◌, ◌++◌, map, length, drop, is_some, Option, Some, None}
use Rattle.std.specs.List.{filter, find, flat_map, list_any}
use Rattle.std.specs.Str.{bytes_eq}
use Rattle.byteorder.specs.Endian.{little_bytes}
use Rattle.ng_bpf_vm.specs.declared.instruction.Insn.{Insn}
use Rattle.ng_bpf_vm.specs.Machine.{answer_of, lone_return}
use Rattle.ng_bpf_vm.specs.Validity.{first_fault}
use Rattle.ng_message.specs.Fields.{name_field, text_or_empty}
use Rattle.ng_base.specs.declared.errno.Errno.{Errno}
use Rattle.ng_machine.specs.declared.body.Door.{Door}
use Rattle.ng_machine.specs.declared.body.Door.TheVariants.{Wire, Hook}
use Rattle.ng_machine.specs.declared.outcome.Outcome.{Outcome}
use Rattle.ng_machine.specs.declared.plan.BpfWay.{BpfWay}
use Rattle.ng_machine.specs.Words.{is_empty}
use Rattle.ng_machine.specs.Errors.{einval, enoent}
use Rattle.ng_base.specs.Name.{is_name}
use Rattle.ng_machine.specs.Arguments.{number_at, text_at}
use Rattle.ng_machine.specs.Counters.{Count, zeros, raise_at, row_bytes, counts_packet}
use Rattle.ng_machine.specs.Outcome.{nothing, counts_only, Reply, refuses, sets, answers, with_length, unless, by_number}

-- a hook: its program and targets, and the counters recvFrames, recvOctets, recvMatchFrames, recvMatchOctets, xmitFrames
-- and xmitOctets; all begin and end with it
pub record Filter : Type 0 where
  pub way : BpfWay
  pub counters : List ℕ

abbrev pub new_filter : List ℕ → Filter
new_filter hook = record { way = record { hook = hook; program = lone_return 0; if_match = None; if_not_match = None }; counters = zeros 6 }

abbrev pub is_of_hook : List ℕ → Filter → Bool
is_of_hook hook f = bytes_eq f.way.hook hook

abbrev pub bpf_with_hook : List Filter → List ℕ → List Filter
bpf_with_hook s hook = s ++ new_filter hook ∷ []

abbrev pub bpf_without_hook : List Filter → List ℕ → List Filter
bpf_without_hook s hook = filter (λ f. not (is_of_hook hook f)) s

-- the hooks with something done to one of them
abbrev pub at_filter : List ℕ → (Filter → Filter) → List Filter → List Filter
at_filter hook change s = map (λ f. if is_of_hook hook f then change f else f) s

-- Packets

abbrev pub is_way_of : List ℕ → BpfWay → Bool
is_way_of hook way = bytes_eq way.hook hook

abbrev pub sends_and_counts : List ℕ → List ℕ → List Count → Outcome
sends_and_counts hook packet counts = record nothing { sends = (hook, packet) ∷ []; counts = counts ++ counts_packet 4 5 hook (length packet) }

-- out of the target, where it is there
abbrev pub to_target : List BpfWay → Option (List ℕ) → List ℕ → List Count → Outcome
to_target ways None packet counts = counts_only counts
to_target ways (Some hook) packet counts = if list_any (is_way_of hook) ways then sends_and_counts hook packet counts else counts_only counts

abbrev pub by_match : List BpfWay → BpfWay → List ℕ → List ℕ → Outcome
by_match ways way hook packet =
    if answer_of way.program packet == 0
    then to_target ways way.if_not_match packet (counts_packet 0 1 hook (length packet))
    else to_target ways way.if_match packet (counts_packet 0 1 hook (length packet) ++ counts_packet 2 3 hook (length packet))

abbrev pub by_way : List BpfWay → Option BpfWay → List ℕ → List ℕ → Outcome
by_way ways None hook packet = nothing
by_way ways (Some way) hook packet = by_match ways way hook packet

abbrev pub filters : List BpfWay → Door → List ℕ → Outcome
filters ways (Hook hook) packet = by_way ways (find (is_way_of hook) ways) hook packet
filters ways Wire packet = nothing

abbrev pub count_filter : List Filter → Count → List Filter
count_filter s c = at_filter c.0 (λ f. record f { counters = raise_at f.counters c.1 c.2 }) s

-- Messages

-- a target's field is a name or empty
abbrev pub is_target : List ℕ → Bool
is_target text = if is_empty text then true else is_name text

abbrev pub target_of : List ℕ → Option (List ℕ)
target_of [] = None
target_of (byte ∷ bytes) = Some (byte ∷ bytes)

-- { code jt jf k }: 2, 1, 1 and 4 bytes
abbrev pub insn_in : List ℕ → Insn
insn_in bytes = record { code = number_at 2 bytes 0; jt = number_at 1 bytes 2; jf = number_at 1 bytes 3; k = number_at 4 bytes 4 }

abbrev pub insns_in : ℕ → List ℕ → List Insn
insns_in zero bytes = []
insns_in (suc n) bytes = insn_in bytes ∷ insns_in n (drop 8 bytes)

-- { thisHook ifMatch ifNotMatch bpf_prog_len bpf_prog }: three names, 4 bytes, and 8 for each of at most 512 instructions
abbrev pub has_program : List ℕ → Bool
has_program args = nat_le 100 (length args) && (length args == 100 + 8 * number_at 4 args 96) && nat_le (number_at 4 args 96) 512

abbrev pub program_in : List ℕ → List Insn
program_in args = insns_in ((length args - 100) / 8) (drop 100 args)

abbrev pub has_filter : List Filter → List ℕ → Bool
has_filter s hook = list_any (is_of_hook hook) s

abbrev pub way_in : List ℕ → BpfWay
way_in args = record { hook = text_at args 0; program = program_in args; if_match = target_of (text_at args 32); if_not_match = target_of (text_at args 64) }

abbrev pub program_refusals : List Filter → List ℕ → List (Bool × Errno)
program_refusals s args =
    (not (has_program args), einval)
    ∷ (not (is_name (text_at args 0)), einval)
    ∷ (not (is_target (text_at args 32)), einval)
    ∷ (not (is_target (text_at args 64)), einval)
    ∷ (not (has_filter s (text_at args 0)), enoent)
    ∷ (is_some (first_fault (program_in args)), einval)
    ∷ []

abbrev pub with_program : List Filter → List ℕ → List Filter
with_program s args = at_filter (text_at args 0) (λ f. record f { way = way_in args }) s

abbrev pub set_program : List Filter → List ℕ → Reply (List Filter)
set_program s args = unless s (program_refusals s args) (sets (with_program s args))

-- the reply by what stands at a hook
abbrev pub by_filter : List Filter → Option Filter → (Filter → Reply (List Filter)) → Reply (List Filter)
by_filter s None reply = refuses s enoent
by_filter s (Some f) reply = reply f

abbrev pub of_hook : List Filter → List ℕ → (Filter → Reply (List Filter)) → Reply (List Filter)
of_hook s args reply = with_length s 32 args (unless s ((not (is_name (text_at args 0)), einval) ∷ []) (by_filter s (find (is_of_hook (text_at args 0)) s) reply))

abbrev pub insn_bytes : Insn → List ℕ
insn_bytes i = little_bytes 2 i.code ++ i.jt ∷ i.jf ∷ little_bytes 4 i.k

abbrev pub way_bytes : BpfWay → List ℕ
way_bytes way =
    name_field way.hook ++ name_field (text_or_empty way.if_match) ++ name_field (text_or_empty way.if_not_match)
    ++ little_bytes 4 (length way.program) ++ flat_map insn_bytes way.program

abbrev pub bpf_clear : List Filter → Filter → List Filter
bpf_clear s f = at_filter f.way.hook (λ g. record g { counters = zeros 6 }) s

-- setprogram 1, getprogram 2, getstats 3, clrstats 4, getclrstats 5 (NGM_BPF_SET_PROGRAM and so on)
abbrev pub bpf_messages : List Filter → List ℕ → List (ℕ × Reply (List Filter))
bpf_messages s args =
    (1, set_program s args)
    ∷ (0x30000002, of_hook s args (λ f. answers s (way_bytes f.way)))
    ∷ (0x20000003, of_hook s args (λ f. answers s (row_bytes f.counters)))
    ∷ (4, of_hook s args (λ f. sets (bpf_clear s f)))
    ∷ (0x20000005, of_hook s args (λ f. answers (bpf_clear s f) (row_bytes f.counters)))
    ∷ []

abbrev pub bpf_message : List Filter → ℕ → List ℕ → Reply (List Filter)
bpf_message s number args = by_number s number (bpf_messages s args)
