-- The commands of a script without fault: few, each of its line, in order.
use Rattle.std.proofs.Common.{◌≡◌, ℕ, ◌+◌, ◌<◌, ◌≤◌, Bool, true, false, cond, eqb, List, [], ◌∷◌, length, reverse, Option, Some, None, refl, sym, arith}
use Rattle.std.proofs.lemmas.Bool.{cond_both, ltb-false, leb-true, leb-false, false≢true}
use Rattle.std.proofs.lemmas.List.{length-reverse}
use Rattle.ng_machine.specs.declared.command.Command.{Command}
use Rattle.ngctl_script.specs.declared.fault.ScriptFault.{ScriptFault}
use Rattle.ngctl_script.specs.declared.when.When.{When}
use Rattle.ngctl_script.specs.declared.when.When.TheVariants.{First, After, Late}
use Rattle.ngctl_script.specs.Lines.{Line, Skipped, Mark, Command as CommandLine, past_blanks, trimmed, line_of, line_of_text, lines_of, mark_of}
use Rattle.ngctl_script.specs.Script.{Before, none_before, past, may_follow, is_wrong, is_more, fault_of, or_else, fault_from, script_fault, command_of, is_quit, commands_at, commands_from, commands_of}
use Rattle.ngctl_script.specs.Held.{AreFrom, MayPrecede, AreInOrder, AreCommands}
use Rattle.ngctl_script.proofs.WordParts.{shorter_past_blanks}

-- what was read is in order behind what stood before
pub record IsOrderly (before : Before) (commands : List (When × Command)) : Type 0 where
  pub few : before.commands + length commands ≤ 4096
  pub each : AreFrom (before.commands + 1) commands
  pub ordered : AreInOrder before.when commands

abbrev IsShort : ℕ → Line → Type 0
IsShort n Skipped = Unit {0}
IsShort n (Mark mark) = Unit {0}
IsShort n (CommandLine text) = length text ≤ n

short_text : (text : List ℕ) → IsShort (length text) (line_of_text text)
short_text [] = tt
short_text (b ∷ text) =
    let whole : length (b ∷ text) ≤ length (b ∷ text) = omega arith in
    cond_both (eqb b 0x23) Skipped (cond (eqb b 0x40) (Mark (mark_of text)) (CommandLine (b ∷ text))) (IsShort (length (b ∷ text))) (λ comment. tt)
    (λ other. cond_both (eqb b 0x40) (Mark (mark_of text)) (CommandLine (b ∷ text)) (IsShort (length (b ∷ text))) (λ mark. tt) (λ command. whole))

short_more : (n m : ℕ) (line : Line) → n ≤ m → IsShort n line → IsShort m line
short_more n m Skipped le short = tt
short_more n m (Mark mark) le short = tt
short_more n m (CommandLine text) le short = omega arith

shorter_trimmed : (line : List ℕ) → length (trimmed line) ≤ length line
shorter_trimmed line =
    let a = shorter_past_blanks line in
    let b = length-reverse (past_blanks line) in
    let c = shorter_past_blanks (reverse (past_blanks line)) in
    let d = length-reverse (past_blanks (reverse (past_blanks line))) in
    omega arith

short_line : (line : List ℕ) → length line ≤ 4096 → IsShort 4096 (line_of line)
short_line line le = short_more (length (trimmed line)) 4096 (line_of line) (let less = shorter_trimmed line in omega arith) (short_text (trimmed line))

precedes_itself : (when : When) → MayPrecede when when
precedes_itself First = tt
precedes_itself (After n) = omega arith
precedes_itself Late = tt

precedes_through : (a b c : When) → MayPrecede a b → MayPrecede b c → MayPrecede a c
precedes_through First b c x y = tt
precedes_through (After n) First c x y = absurd x
precedes_through (After n) (After m) First x y = absurd y
precedes_through (After n) (After m) (After k) x y = omega arith
precedes_through (After n) (After m) Late x y = tt
precedes_through (After n) Late First x y = absurd y
precedes_through (After n) Late (After k) x y = absurd y
precedes_through (After n) Late Late x y = tt
precedes_through Late First c x y = absurd x
precedes_through Late (After m) c x y = absurd x
precedes_through Late Late c x y = y

in_order_behind : (a b : When) (commands : List (When × Command)) → MayPrecede a b → AreInOrder b commands → AreInOrder a commands
in_order_behind a b [] x order = tt
in_order_behind a b (timed ∷ others) x order = (precedes_through a b timed.0 x order.0, order.1)

-- a mark that may stand there
mark_precedes : (last when : When) → may_follow last (Some when) ≡ true → MayPrecede last when
mark_precedes First when may = tt
mark_precedes (After n) First may = absurd (false≢true may)
mark_precedes (After n) (After m) may = leb-true n m may
mark_precedes (After n) Late may = tt
mark_precedes Late First may = absurd (false≢true may)
mark_precedes Late (After m) may = absurd (false≢true may)
mark_precedes Late Late may = tt

not_wrong : (t : Bool) → cond t false true ≡ false → t ≡ true
not_wrong true e = refl
not_wrong false e = sym e

one_more : (before : Before) (line : List ℕ) (rest : List (When × Command)) (ends : Bool) → length line ≤ 4096 → before.commands < 4096
    → IsOrderly (record before { commands = before.commands + 1 }) rest
    → IsOrderly before (cond ends ((before.when, command_of (before.commands + 1) line) ∷ []) ((before.when, command_of (before.commands + 1) line) ∷ rest))
one_more before line rest true short few more = record {
  few = omega arith;
  each = (refl, record { short = short; asked = refl }, tt);
  ordered = (precedes_itself before.when, tt);
}
one_more before line rest false short few more = record {
  few = (let h = more.few in omega arith);
  each = (refl, record { short = short; asked = refl }, more.each);
  ordered = (precedes_itself before.when, more.ordered);
}

one_line : (before : Before) (line : Line) (rest : List (When × Command)) → IsShort 4096 line → before.commands ≤ 4096
    → is_wrong before line ≡ false → is_more before line ≡ false
    → ((past before line).commands ≤ 4096 → IsOrderly (past before line) rest) → IsOrderly before (commands_at before line rest)
one_line before Skipped rest short few right room more = more few
one_line before (Mark None) rest short few right room more = absurd (false≢true (sym right))
one_line before (Mark (Some when)) rest short few right room more =
    let then_on = more few in
    record {
      few = then_on.few;
      each = then_on.each;
      ordered = in_order_behind before.when when rest (mark_precedes before.when when (not_wrong _ right)) then_on.ordered;
    }
one_line before (CommandLine line) rest short few right room more =
    let less : before.commands < 4096 = leb-false 4096 before.commands room in
    one_more before line rest (is_quit (command_of (before.commands + 1) line).what) short less (more (omega arith))

-- a line without a fault
pub record IsRight (before : Before) (line : List ℕ) : Type 0 where
  pub short : length line ≤ 4096
  pub right : is_wrong before (line_of line) ≡ false
  pub room : is_more before (line_of line) ≡ false

no_fault : (a b c : Bool) (x y z : ScriptFault) → cond a (Some x) (cond b (Some y) (cond c (Some z) None)) ≡ None → (a ≡ false) × (b ≡ false) × (c ≡ false)
no_fault true b c x y z e = absurd (cc e)
no_fault false true c x y z e = absurd (cc e)
no_fault false false true x y z e = absurd (cc e)
no_fault false false false x y z e = (refl, refl, refl)

right_line : (n : ℕ) (before : Before) (line : List ℕ) → fault_of n before line ≡ None → IsRight before line
right_line n before line e =
    let parts = no_fault _ _ _ _ _ _ e in
    record { short = ltb-false 4096 (length line) parts.0; right = parts.1; room = parts.2 }

or_none : (a b : Option ScriptFault) → or_else a b ≡ None → (a ≡ None) × (b ≡ None)
or_none None b e = (refl, e)
or_none (Some fault) b e = absurd (cc e)

lines_are_orderly : (n : ℕ) (before : Before) (lines : List (List ℕ)) → before.commands ≤ 4096 → fault_from n before lines ≡ None
    → IsOrderly before (commands_from before lines)
lines_are_orderly n before [] few e = record { few = omega arith; each = tt; ordered = tt }
lines_are_orderly n before (line ∷ lines) few e =
    let parts = or_none (fault_of n before line) (fault_from (n + 1) (past before (line_of line)) lines) e in
    let is = right_line n before line parts.0 in
    one_line before (line_of line) (commands_from (past before (line_of line)) lines) (short_line line is.short) few is.right is.room
    (λ less. lines_are_orderly (n + 1) (past before (line_of line)) lines less parts.1)

pub are_commands : (bytes : List ℕ) → script_fault bytes ≡ None → AreCommands (commands_of bytes)
are_commands bytes e =
    let orderly = lines_are_orderly 1 none_before (lines_of bytes) (omega arith) e in
    record { few = (let h = orderly.few in omega arith); each = orderly.each; ordered = orderly.ordered }
