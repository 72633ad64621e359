-- The commands among the inputs of a script.
use Rattle.std.proofs.Common.{◌≡◌, ℕ, ◌+◌, ◌-◌, ◌≤◌, eqb, List, [], ◌∷◌, ◌++◌, length, map, refl, sym, ap, ◌∙◌, subst, inl, inr, arith, append_assoc}
use Rattle.std.specs.Prelude.{nat_lt}
use Rattle.std.proofs.lemmas.Bool.{cases_Bool}
use Rattle.ng_base.specs.declared.ids.Stamp.{Stamp}
use Rattle.ng_machine.specs.declared.command.Command.{Command as CommandLine}
use Rattle.ng_machine.specs.declared.input.Input.{Input}
use Rattle.ng_machine.specs.declared.input.Input.TheVariants.{Command as Fed, Late as FedLate, Packet, Tick}
use Rattle.ng_machine.specs.Feed.{later}
use Rattle.ngctl_script.specs.declared.when.When.TheVariants.{First}
use Rattle.ngctl_script.specs.Held.{AreFrom, AreInOrder}
use Rattle.ngctl_script.specs.declared.feed.arrival.Arrival.{Arrival}
use Rattle.ngctl_script.specs.feed.Inputs.{Timed, seconds, tick_if, ticks, packet_input, inputs_with}
use Rattle.ngctl_script.specs.feed.Merge.{merged}
use Rattle.ngctl_script.specs.feed.Dealing.{turn, due, left, feeds_from, feeds, rest_from}
use Rattle.ngctl_script.proofs.feed.Dealt.{dealt}
use Rattle.ngctl_print.specs.whole.Commands.{commands_in}
use Rattle.ng_laws.specs.printable.Printable.{AscendFrom}
use Rattle.ng_laws.specs.printable.Scripts.{InputsAreOfScript}

abbrev lines_of : Timed → List CommandLine
lines_of script = map (λ timed. timed.1) script

abbrev fed_of : Timed → List Input
fed_of script = map (λ timed. Fed timed.1) script

abbrev late_of : Timed → List Input
late_of script = map (λ timed. FedLate timed.1) script

in_append : (a b : List Input) → commands_in (a ++ b) ≡ commands_in a ++ commands_in b
in_append [] b = refl
in_append (Fed command ∷ a) b = ap (λ (cs : List CommandLine). command ∷ cs) (in_append a b)
in_append (FedLate command ∷ a) b = ap (λ (cs : List CommandLine). command ∷ cs) (in_append a b)
in_append (Packet port stamp packet ∷ a) b = in_append a b
in_append (Tick seconds ∷ a) b = in_append a b

in_fed : (script : Timed) → commands_in (fed_of script) ≡ lines_of script
in_fed [] = refl
in_fed (timed ∷ script) = ap (λ (cs : List CommandLine). timed.1 ∷ cs) (in_fed script)

in_late : (script : Timed) → commands_in (late_of script) ≡ lines_of script
in_late [] = refl
in_late (timed ∷ script) = ap (λ (cs : List CommandLine). timed.1 ∷ cs) (in_late script)

in_tick : (n : ℕ) → commands_in (tick_if n) ≡ []
in_tick n = elim (cases_Bool (nat_lt 0 n)) [ inl is ↦ rw is refl | inr not ↦ rw not refl ]

lines_append : (a b : Timed) → lines_of (a ++ b) ≡ lines_of a ++ lines_of b
lines_append [] b = refl
lines_append (timed ∷ a) b = ap (λ (cs : List CommandLine). timed.1 ∷ cs) (lines_append a b)

due_left : (packets now : ℕ) (script : Timed) → due packets now script ++ left packets now script ≡ script
due_left packets now [] = refl
due_left packets now (timed ∷ script) = elim (cases_Bool (eqb (turn packets timed.0) now)) [
  | inl is ↦ rw is (ap (λ (rest : Timed). timed ∷ rest) (due_left packets now script))
  | inr not ↦ rw not refl
]

-- the commands of a turn, and those behind them
turn_lines : (packets now : ℕ) (script : Timed) → lines_of (due packets now script) ++ lines_of (left packets now script) ≡ lines_of script
turn_lines packets now script =
    sym (lines_append (due packets now script) (left packets now script)) ∙ ap lines_of (due_left packets now script)

fed_lines : (packets now : ℕ) (script : Timed) (more : List CommandLine) (rest : List Input)
    → commands_in rest ≡ more → more ≡ lines_of (left packets now script)
    → commands_in (fed_of (due packets now script) ++ rest) ≡ lines_of script
fed_lines packets now script more rest is behind =
    in_append (fed_of (due packets now script)) rest
    ∙ ap (λ (cs : List CommandLine). cs ++ commands_in rest) (in_fed (due packets now script))
    ∙ ap (λ (cs : List CommandLine). lines_of (due packets now script) ++ cs) (is ∙ behind)
    ∙ turn_lines packets now script

-- the packets from one on with the commands behind them, and then those that are left
feeds_lines : (packets : ℕ) (first clock : Stamp) (n : ℕ) (script : Timed) (arrivals : List Arrival)
    → commands_in (feeds_from packets first clock n script arrivals ++ late_of (rest_from packets n script arrivals)) ≡ lines_of script
feeds_lines packets first clock n script [] = in_late script
feeds_lines packets first clock n script (arrival ∷ arrivals) =
    let now = n + 1 in
    let next = feeds_from packets first (later clock arrival.stamp) now (left packets now script) arrivals in
    let end = late_of (rest_from packets now (left packets now script) arrivals) in
    let tick = ticks first clock arrival.stamp in
    let behind = fed_of (due packets now script) ++ next in
    let whole = tick ++ (packet_input arrival ∷ behind) in
    in_append whole end
    ∙ ap (λ (cs : List CommandLine). cs ++ commands_in end)
    (in_append tick (packet_input arrival ∷ behind) ∙ ap (λ (cs : List CommandLine). cs ++ commands_in behind) (in_tick (seconds first (later clock arrival.stamp) - seconds first clock)))
    ∙ sym (in_append behind end)
    ∙ ap commands_in (append_assoc (fed_of (due packets now script)) next end)
    ∙ fed_lines packets now script (lines_of (left packets now script)) (next ++ end)
    (feeds_lines packets first (later clock arrival.stamp) now (left packets now script) arrivals) refl

all_feeds_lines : (packets : ℕ) (script : Timed) (arrivals : List Arrival)
    → commands_in (feeds packets script arrivals ++ late_of (rest_from packets 1 script arrivals)) ≡ lines_of script
all_feeds_lines packets script [] = in_late script
all_feeds_lines packets script (arrival ∷ arrivals) = feeds_lines packets arrival.stamp arrival.stamp 1 script (arrival ∷ arrivals)

with_lines : (script : Timed) (arrivals : List Arrival) → AreInOrder First script → commands_in (inputs_with script arrivals) ≡ lines_of script
with_lines script arrivals ordered =
    let packets = length arrivals in
    let zero_left = left packets 0 script in
    let rest = left packets 1 zero_left in
    let end = feeds packets rest arrivals ++ late_of (rest_from packets 1 rest arrivals) in
    ap commands_in (sym (dealt script arrivals ordered))
    ∙ fed_lines packets 0 script (lines_of zero_left) (fed_of (due packets 1 zero_left) ++ end)
    (fed_lines packets 1 zero_left (lines_of rest) end (all_feeds_lines packets rest arrivals) refl) refl

-- numbers from one on ascend
from_ascends : (n low : ℕ) (script : Timed) → low ≤ n → AreFrom n script → AscendFrom low (lines_of script)
from_ascends n low [] le from = tt
from_ascends n low (timed ∷ script) le from =
    let is : timed.1.number ≡ n = from.0 in
    (omega arith, from_ascends (n + 1) (timed.1.number + 1) script (omega arith) from.2)

pub inputs_are_of_script : InputsAreOfScript
inputs_are_of_script script captures are =
    let same = with_lines script (merged captures) are.ordered in record {
      commands = same;
      ascend = subst (AscendFrom 0) (sym same) (from_ascends 1 0 script (omega arith) are.each);
    }
