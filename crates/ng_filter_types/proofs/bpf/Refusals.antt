-- The table of refusals of setprogram, row by row.
use Rattle.std.proofs.Common.{◌≡◌, ℕ, Bool, true, false, not, List, [], ◌∷◌, Option, Some, None, is_some, refl, ◌∙◌}
use Rattle.ng_base.specs.Name.{is_name}
use Rattle.ng_base.specs.declared.errno.Errno.{Errno}
use Rattle.ng_bpf_vm.specs.Validity.{first_fault}
use Rattle.ng_machine.specs.Arguments.{text_at}
use Rattle.ng_machine.specs.kinds.Bpf.{Filter, has_filter, has_program, is_target, program_in, program_refusals}
use Rattle.ng_machine.specs.Errors.{einval, enoent}
use Rattle.ng_machine.specs.Words.{first_refusal}

abbrev rows : (a b c d e f : Bool) → Option Errno
rows a b c d e f = first_refusal ((not a, einval) ∷ (not b, einval) ∷ (not c, einval) ∷ (not d, einval) ∷ (not e, enoent) ∷ (f, einval) ∷ [])

row_whole : (a b c d e f : Bool) → a ≡ false → rows a b c d e f ≡ Some einval
row_whole a b c d e f ha = rw ha refl

row_named : (a b c d e f : Bool) → a ≡ true → b ≡ false → rows a b c d e f ≡ Some einval
row_named a b c d e f ha hb = rw ha (rw hb refl)

row_match : (a b c d e f : Bool) → a ≡ true → b ≡ true → c ≡ false → rows a b c d e f ≡ Some einval
row_match a b c d e f ha hb hc = rw ha (rw hb (rw hc refl))

row_other : (a b c d e f : Bool) → a ≡ true → b ≡ true → c ≡ true → d ≡ false → rows a b c d e f ≡ Some einval
row_other a b c d e f ha hb hc hd = rw ha (rw hb (rw hc (rw hd refl)))

row_there : (a b c d e f : Bool) → a ≡ true → b ≡ true → c ≡ true → d ≡ true → e ≡ false → rows a b c d e f ≡ Some enoent
row_there a b c d e f ha hb hc hd he = rw ha (rw hb (rw hc (rw hd (rw he refl))))

row_last : (a b c d e f : Bool) → a ≡ true → b ≡ true → c ≡ true → d ≡ true → e ≡ true → rows a b c d e f ≡ first_refusal ((f, einval) ∷ [])
row_last a b c d e f ha hb hc hd he = rw ha (rw hb (rw hc (rw hd (rw he refl))))

pub not_whole : (s : List Filter) (args : List ℕ) → has_program args ≡ false → first_refusal (program_refusals s args) ≡ Some einval
not_whole s args ha = row_whole (has_program args) (is_name (text_at args 0)) (is_target (text_at args 32)) (is_target (text_at args 64)) (has_filter s (text_at args 0)) (is_some (first_fault (program_in args))) ha

pub not_named : (s : List Filter) (args : List ℕ) → has_program args ≡ true → is_name (text_at args 0) ≡ false → first_refusal (program_refusals s args) ≡ Some einval
not_named s args ha hb = row_named (has_program args) (is_name (text_at args 0)) (is_target (text_at args 32)) (is_target (text_at args 64)) (has_filter s (text_at args 0)) (is_some (first_fault (program_in args))) ha hb

pub no_match : (s : List Filter) (args : List ℕ) → has_program args ≡ true → is_name (text_at args 0) ≡ true → is_target (text_at args 32) ≡ false → first_refusal (program_refusals s args) ≡ Some einval
no_match s args ha hb hc = row_match (has_program args) (is_name (text_at args 0)) (is_target (text_at args 32)) (is_target (text_at args 64)) (has_filter s (text_at args 0)) (is_some (first_fault (program_in args))) ha hb hc

pub no_other : (s : List Filter) (args : List ℕ) → has_program args ≡ true → is_name (text_at args 0) ≡ true → is_target (text_at args 32) ≡ true → is_target (text_at args 64) ≡ false
    → first_refusal (program_refusals s args) ≡ Some einval
no_other s args ha hb hc hd = row_other (has_program args) (is_name (text_at args 0)) (is_target (text_at args 32)) (is_target (text_at args 64)) (has_filter s (text_at args 0)) (is_some (first_fault (program_in args))) ha hb hc hd

pub not_there : (s : List Filter) (args : List ℕ) → has_program args ≡ true → is_name (text_at args 0) ≡ true → is_target (text_at args 32) ≡ true → is_target (text_at args 64) ≡ true
    → has_filter s (text_at args 0) ≡ false → first_refusal (program_refusals s args) ≡ Some enoent
not_there s args ha hb hc hd he = row_there (has_program args) (is_name (text_at args 0)) (is_target (text_at args 32)) (is_target (text_at args 64)) (has_filter s (text_at args 0)) (is_some (first_fault (program_in args))) ha hb hc hd he

pub named : (s : List Filter) (args : List ℕ) → has_program args ≡ true → is_name (text_at args 0) ≡ true → is_target (text_at args 32) ≡ true → is_target (text_at args 64) ≡ true
    → has_filter s (text_at args 0) ≡ true → first_refusal (program_refusals s args) ≡ first_refusal ((is_some (first_fault (program_in args)), einval) ∷ [])
named s args ha hb hc hd he = row_last (has_program args) (is_name (text_at args 0)) (is_target (text_at args 32)) (is_target (text_at args 64)) (has_filter s (text_at args 0)) (is_some (first_fault (program_in args))) ha hb hc hd he

by_fault : (b : Bool) → b ≡ true → first_refusal ((b, einval) ∷ []) ≡ Some einval
by_fault b h = rw h refl

by_none : (b : Bool) → b ≡ false → first_refusal ((b, einval) ∷ []) ≡ None
by_none b h = rw h refl

pub faulty : (s : List Filter) (args : List ℕ) → first_refusal (program_refusals s args) ≡ first_refusal ((is_some (first_fault (program_in args)), einval) ∷ []) → is_some (first_fault (program_in args)) ≡ true
    → first_refusal (program_refusals s args) ≡ Some einval
faulty s args last bad = last ∙ by_fault (is_some (first_fault (program_in args))) bad

pub faultless : (s : List Filter) (args : List ℕ) → first_refusal (program_refusals s args) ≡ first_refusal ((is_some (first_fault (program_in args)), einval) ∷ []) → is_some (first_fault (program_in args)) ≡ false
    → first_refusal (program_refusals s args) ≡ None
faultless s args last good = last ∙ by_none (is_some (first_fault (program_in args))) good
