-- Replies to messages, row by row of their table.
use Rattle.std.proofs.Common.{◌≡◌, ◌≢◌, ℕ, arith, Bool, true, false, ◌==◌, if◌then◌else◌, List, find, Option, Some, None, length, refl, sym, ap, ◌∙◌}
use Rattle.std.proofs.lemmas.Bool.Decides.{nat_tests}
use Rattle.ng_base.specs.declared.errno.Errno.{Errno}
use Rattle.ng_machine.specs.Arguments.{text_at}
use Rattle.ng_machine.specs.kinds.Bpf.{Filter, at_filter, bpf_clear, bpf_message, by_filter, is_of_hook, of_hook, program_refusals, set_program, way_bytes, way_in, with_program}
use Rattle.ng_machine.specs.Counters.{row_bytes}
use Rattle.ng_machine.specs.Outcome.{Reply, answers, invalid, sets, unless_refused}
use Rattle.ng_machine.specs.Words.{first_refusal}
use Rattle.ng_machine.specs.declared.plan.BpfWay.{BpfWay}

-- ---- setprogram

unrefused : (s : List Filter) (o : Option Errno) (reply : Reply (List Filter)) → o ≡ None → unless_refused s o reply ≡ reply
unrefused s o reply e = rw e refl

-- what is set is what the arguments say
pub program_set : (s : List Filter) (args : List ℕ) (way : BpfWay) → first_refusal (program_refusals s args) ≡ None → way ≡ way_in args
    → at_filter way.hook (λ f. record f { way = way }) s ≡ (set_program s args).after
program_set s args way none is =
    ap (λ (w : BpfWay). at_filter w.hook (λ f. record f { way = w }) s) is
    ∙ sym (ap (λ (r : Reply (List Filter)). r.after) (unrefused s (first_refusal (program_refusals s args)) (sets (with_program s args)) none))

-- ---- the other messages, by their numbers

pub stats_row : (s : List Filter) (args : List ℕ) (number : ℕ) → number ≡ 0x20000003 → of_hook s args (λ f. answers s (row_bytes f.counters)) ≡ bpf_message s number args
stats_row s args number e = rw e refl

pub clear_row : (s : List Filter) (args : List ℕ) (number : ℕ) → number ≡ 4 → of_hook s args (λ f. sets (bpf_clear s f)) ≡ bpf_message s number args
clear_row s args number e = rw e refl

pub both_row : (s : List Filter) (args : List ℕ) (number : ℕ) → number ≡ 0x20000005 → of_hook s args (λ f. answers (bpf_clear s f) (row_bytes f.counters)) ≡ bpf_message s number args
both_row s args number e = rw e refl

-- ---- messages that change nothing

if_keeps : (b : Bool) (s : List Filter) (reply other : Reply (List Filter)) → reply.after ≡ s → other.after ≡ s → (if b then reply else other).after ≡ s
if_keeps true s reply other e f = e
if_keeps false s reply other e f = f

unless_keeps : (o : Option Errno) (s : List Filter) (reply : Reply (List Filter)) → reply.after ≡ s → (unless_refused s o reply).after ≡ s
unless_keeps None s reply e = e
unless_keeps (Some errno) s reply e = refl

by_keeps : (o : Option Filter) (s : List Filter) (bytes : Filter → List ℕ) → (by_filter s o (λ f. answers s (bytes f))).after ≡ s
by_keeps None s bytes = refl
by_keeps (Some f) s bytes = refl

answer_keeps : (s : List Filter) (args : List ℕ) (bytes : Filter → List ℕ) → (of_hook s args (λ f. answers s (bytes f))).after ≡ s
answer_keeps s args bytes =
    if_keeps (length args == 32) s _ (invalid s)
    (unless_keeps _ s (by_filter s (find (is_of_hook (text_at args 0)) s) (λ f. answers s (bytes f))) (by_keeps (find (is_of_hook (text_at args 0)) s) s bytes))
    refl

apart : (a b : ℕ) → a ≢ b → (a == b) ≡ false
apart a b differ = grind (arith, nat_tests, differ)

-- a message that sets nothing
pub others_keep : (s : List Filter) (args : List ℕ) (number : ℕ) → number ≢ 1 → number ≢ 4 → number ≢ 0x20000005 → s ≡ (bpf_message s number args).after
others_keep s args number first fourth fifth = rw (apart number 1 first, apart number 4 fourth, apart number 0x20000005 fifth) (sym (
    if_keeps (number == 0x30000002) s _ _ (answer_keeps s args (λ f. way_bytes f.way))
    (if_keeps (number == 0x20000003) s _ (invalid s) (answer_keeps s args (λ f. row_bytes f.counters)) refl)))
