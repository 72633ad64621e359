-- Commands that are fed in turns are those of their marks, since a script has them in order.
use Rattle.std.proofs.Common.{◌≡◌, ℕ, suc, ◌+◌, ◌<◌, ◌≤◌, min, Bool, true, false, cond, eqb, List, [], ◌∷◌, ◌++◌, length, map, filter, refl, sym, ap, subst, ◌∙◌, arith}
use Rattle.std.proofs.lemmas.List.{append_assoc}
use Rattle.std.proofs.lemmas.Bool.{eqb-true, eqb-false, eq-eqb, ne_eqb, cond-true, cond-false}
use Rattle.ng_base.specs.declared.ids.Stamp.{Stamp}
use Rattle.ng_machine.specs.declared.command.Command.{Command as CommandLine}
use Rattle.ng_machine.specs.declared.input.Input.{Input}
use Rattle.ng_machine.specs.declared.input.Input.TheVariants.{Command, Late as LateCommand}
use Rattle.ng_machine.specs.Feed.{later}
use Rattle.ngctl_script.specs.declared.when.When.{When}
use Rattle.ngctl_script.specs.declared.when.When.TheVariants.{First, After, Late}
use Rattle.ngctl_script.specs.Held.{MayPrecede, AreInOrder}
use Rattle.ngctl_script.specs.declared.feed.arrival.Arrival.{Arrival}
use Rattle.ngctl_script.specs.feed.Inputs.{Timed, is_first, is_late, is_after, commands_that, late_commands, ticks, packet_input, arrivals_from, packet_inputs, inputs_with}
use Rattle.ngctl_script.specs.feed.Dealing.{turn, due, left, feeds_from, feeds, rest_from}

abbrev of_turn : ℕ → ℕ → Timed → Timed
of_turn packets now script = filter (λ timed. eqb (turn packets timed.0) now) script

-- the turns rise from `now` on
abbrev Rises : ℕ → ℕ → Timed → Type 0
Rises packets now [] = Unit {0}
Rises packets now (timed ∷ script) = (now ≤ turn packets timed.0) × Rises packets (turn packets timed.0) script

turns_rise : (packets : ℕ) (a b : When) → MayPrecede a b → turn packets a ≤ turn packets b
turns_rise packets First First may = omega arith
turns_rise packets First (After n) may = omega arith
turns_rise packets First Late may = omega arith
turns_rise packets (After n) First may = elim may [ ]
turns_rise packets (After n) (After m) may = omega arith
turns_rise packets (After n) Late may = omega arith
turns_rise packets Late First may = elim may [ ]
turns_rise packets Late (After m) may = elim may [ ]
turns_rise packets Late Late may = omega arith

in_order_rises : (packets : ℕ) (last : When) (script : Timed) → AreInOrder last script → Rises packets (turn packets last) script
in_order_rises packets last [] ordered = tt
in_order_rises packets last (timed ∷ script) ordered = (turns_rise packets last timed.0 (ordered.0), in_order_rises packets timed.0 script (ordered.1))

none_of : (packets now from : ℕ) (script : Timed) → now < from → Rises packets from script → of_turn packets now script ≡ []
none_of packets now from [] low rises = refl
none_of packets now from (timed ∷ script) low rises =
    cond-false _ _ _ (ne_eqb (turn packets timed.0) now (λ e. let h = rises.0 in omega arith))
    ∙ none_of packets now (turn packets timed.0) script (let h = rises.0 in omega arith) (rises.1)

-- the commands in front that have this turn are all that have it
due_if : (packets now : ℕ) (timed : When × CommandLine) (script : Timed) (is : Bool) → eqb (turn packets timed.0) now ≡ is → now ≤ turn packets timed.0 → Rises packets (turn packets timed.0) script
    → (Rises packets now script → due packets now script ≡ of_turn packets now script)
    → cond is (timed ∷ due packets now script) [] ≡ cond is (timed ∷ of_turn packets now script) (of_turn packets now script)
due_if packets now timed script true test low rises more = let P : ℕ → Type 0 = λ n. Rises packets n script in
    ap (λ rest. timed ∷ rest) (more (subst P (eqb-true (turn packets timed.0) now test) rises))
due_if packets now timed script false test low rises more =
    sym (none_of packets now (turn packets timed.0) script (let differ = eqb-false (turn packets timed.0) now test in omega arith) rises)

due_is : (packets now : ℕ) (script : Timed) → Rises packets now script → due packets now script ≡ of_turn packets now script
due_is packets now [] rises = refl
due_is packets now (timed ∷ script) rises = due_if packets now timed script (eqb (turn packets timed.0) now) refl (rises.0) (rises.1) (λ again. due_is packets now script again)

left_if : (packets now : ℕ) (timed : When × CommandLine) (script : Timed) (is : Bool) → eqb (turn packets timed.0) now ≡ is → now ≤ turn packets timed.0 → Rises packets (turn packets timed.0) script
    → (Rises packets now script → Rises packets (now + 1) (left packets now script)) → Rises packets (now + 1) (cond is (left packets now script) (timed ∷ script))
left_if packets now timed script true test low rises more = let P : ℕ → Type 0 = λ n. Rises packets n script in more (subst P (eqb-true (turn packets timed.0) now test) rises)
left_if packets now timed script false test low rises more = (let differ = eqb-false (turn packets timed.0) now test in omega arith, rises)

left_rises : (packets now : ℕ) (script : Timed) → Rises packets now script → Rises packets (now + 1) (left packets now script)
left_rises packets now [] rises = tt
left_rises packets now (timed ∷ script) rises = left_if packets now timed script (eqb (turn packets timed.0) now) refl (rises.0) (rises.1) (λ again. left_rises packets now script again)

keeps_if : (packets now other : ℕ) (timed : When × CommandLine) (script : Timed) (is : Bool) → eqb (turn packets timed.0) now ≡ is → now < other
    → of_turn packets other script ≡ of_turn packets other (left packets now script)
    → of_turn packets other (timed ∷ script) ≡ of_turn packets other (cond is (left packets now script) (timed ∷ script))
keeps_if packets now other timed script true test differ more =
    cond-false _ _ _ (ne_eqb (turn packets timed.0) other (λ e. let same = eqb-true (turn packets timed.0) now test in omega arith)) ∙ more
keeps_if packets now other timed script false test differ more = refl

-- and those of later turns are still there
left_keeps : (packets now other : ℕ) (script : Timed) → now < other → of_turn packets other script ≡ of_turn packets other (left packets now script)
left_keeps packets now other [] differ = refl
left_keeps packets now other (timed ∷ script) differ =
    keeps_if packets now other timed script (eqb (turn packets timed.0) now) refl differ (left_keeps packets now other script differ)

-- `rest` has the commands of the script whose turns are not past
pub record Follows (packets now : ℕ) (script rest : Timed) : Type 0 where
  rises : Rises packets now rest
  same : (other : ℕ) → now ≤ other → of_turn packets other script ≡ of_turn packets other rest

follows_at_first : (packets : ℕ) (script : Timed) → AreInOrder First script → Follows packets 0 script script
follows_at_first packets script ordered = record { rises = in_order_rises packets First script ordered; same = λ other low. refl }

follows_on : (packets now : ℕ) (script rest : Timed) → Follows packets now script rest → Follows packets (now + 1) script (left packets now rest)
follows_on packets now script rest so_far = record {
  rises = left_rises packets now rest so_far.rises;
  same = λ other low. so_far.same other (omega arith) ∙ left_keeps packets now other rest (omega arith);
}

due_follows : (packets now : ℕ) (script rest : Timed) → Follows packets now script rest → of_turn packets now script ≡ due packets now rest
due_follows packets now script rest so_far = so_far.same now (omega arith) ∙ sym (due_is packets now rest so_far.rises)

-- Tests of marks as turns

filter_as : (test other : When → Bool) (script : Timed) → ((when : When) → test when ≡ other when) → filter (λ timed. test timed.0) script ≡ filter (λ timed. other timed.0) script
filter_as test other [] same = refl
filter_as test other (timed ∷ script) same =
    ap (λ is. cond is (timed ∷ filter (λ t. test t.0) script) (filter (λ t. test t.0) script)) (same timed.0)
    ∙ ap (λ rest. cond (other timed.0) (timed ∷ rest) rest) (filter_as test other script same)

first_turn : (packets : ℕ) (when : When) → is_first when ≡ eqb (turn packets when) 0
first_turn packets First = refl
first_turn packets (After n) = sym (ne_eqb (min n packets + 1) 0 (λ e. omega arith))
first_turn packets Late = sym (ne_eqb (packets + 2) 0 (λ e. omega arith))

same_test : (a b : ℕ) (is : Bool) → eqb a b ≡ is → is ≡ eqb (a + 1) (b + 1)
same_test a b true test = let e = eqb-true a b test in sym (eq-eqb (a + 1) (b + 1) (omega arith))
same_test a b false test = let e = eqb-false a b test in sym (ne_eqb (a + 1) (b + 1) (λ same. e (omega arith)))

after_turn : (packets n : ℕ) (when : When) → n ≤ packets → is_after packets n when ≡ eqb (turn packets when) (n + 1)
after_turn packets n First low = sym (ne_eqb 0 (n + 1) (λ e. omega arith))
after_turn packets n (After place) low = same_test (min place packets) n (eqb (min place packets) n) refl
after_turn packets n Late low = sym (ne_eqb (packets + 2) (n + 1) (λ e. omega arith))

late_turn : (packets : ℕ) (when : When) → is_late when ≡ eqb (turn packets when) (packets + 2)
late_turn packets First = sym (ne_eqb 0 (packets + 2) (λ e. omega arith))
late_turn packets (After n) = sym (ne_eqb (min n packets + 1) (packets + 2) (λ e. omega arith))
late_turn packets Late = sym (eq-eqb (packets + 2) (packets + 2) refl)

first_due : (packets : ℕ) (script rest : Timed) → Follows packets 0 script rest → commands_that is_first script ≡ map (λ timed. Command timed.1) (due packets 0 rest)
first_due packets script rest so_far =
    ap (λ commands. map (λ timed. Command timed.1) commands) (filter_as is_first (λ when. eqb (turn packets when) 0) script (first_turn packets) ∙ due_follows packets 0 script rest so_far)

after_due : (packets n : ℕ) (script rest : Timed) → n ≤ packets → Follows packets (n + 1) script rest → commands_that (is_after packets n) script ≡ map (λ timed. Command timed.1) (due packets (n + 1) rest)
after_due packets n script rest low so_far =
    ap (λ commands. map (λ timed. Command timed.1) commands)
    (filter_as (is_after packets n) (λ when. eqb (turn packets when) (n + 1)) script (λ when. after_turn packets n when low) ∙ due_follows packets (n + 1) script rest so_far)

-- The packets

fed_from : (packets : ℕ) (first clock : Stamp) (n : ℕ) (script rest : Timed) (arrivals : List Arrival) → n + length arrivals ≡ packets + 1 → Follows packets (n + 1) script rest
    → arrivals_from script packets first clock n arrivals ≡ feeds_from packets first clock n rest arrivals
fed_from packets first clock n script rest [] count so_far = refl
fed_from packets first clock n script rest (arrival ∷ arrivals) count so_far =
    ap (λ commands. ticks first clock arrival.stamp ++ (packet_input arrival ∷ (commands ++ arrivals_from script packets first (later clock arrival.stamp) (n + 1) arrivals)))
    (after_due packets n script rest (omega arith) so_far)
    ∙ ap (λ more. ticks first clock arrival.stamp ++ (packet_input arrival ∷ (map (λ timed. Command timed.1) (due packets (n + 1) rest) ++ more)))
    (fed_from packets first (later clock arrival.stamp) (n + 1) script (left packets (n + 1) rest) arrivals (omega arith) (follows_on packets (n + 1) script rest so_far))

rest_follows : (packets n : ℕ) (script rest : Timed) (arrivals : List Arrival) → Follows packets (n + 1) script rest → Follows packets (n + length arrivals + 1) script (rest_from packets n rest arrivals)
rest_follows packets n script rest [] so_far = let P : ℕ → Type 0 = λ k. Follows packets k script rest in let e : n + 1 ≡ n + 0 + 1 = omega arith in subst P e so_far
rest_follows packets n script rest (arrival ∷ arrivals) so_far =
    let P : ℕ → Type 0 = λ k. Follows packets k script (rest_from packets (n + 1) (left packets (n + 1) rest) arrivals) in
    let e : n + 1 + length arrivals + 1 ≡ n + suc (length arrivals) + 1 = omega arith in
    subst P e (rest_follows packets (n + 1) script (left packets (n + 1) rest) arrivals (follows_on packets (n + 1) script rest so_far))

most_turn : (packets : ℕ) (when : When) → turn packets when ≤ packets + 2
most_turn packets First = omega arith
most_turn packets (After n) = omega arith
most_turn packets Late = omega arith

-- all that is left at the end has the last turn
all_late : (packets from : ℕ) (script : Timed) → packets + 2 ≤ from → Rises packets from script → of_turn packets (packets + 2) script ≡ script
all_late packets from [] last rises = refl
all_late packets from (timed ∷ script) last rises =
    let h = rises.0 in let m = most_turn packets timed.0 in
    cond-true _ _ _ (eq-eqb (turn packets timed.0) (packets + 2) (omega arith))
    ∙ ap (λ rest. timed ∷ rest) (all_late packets (turn packets timed.0) script (omega arith) (rises.1))

late_due : (packets : ℕ) (script rest : Timed) → Follows packets (packets + 2) script rest → late_commands script ≡ map (λ timed. LateCommand timed.1) rest
late_due packets script rest so_far =
    ap (λ commands. map (λ timed. LateCommand timed.1) commands)
    (filter_as is_late (λ when. eqb (turn packets when) (packets + 2)) script (late_turn packets) ∙ so_far.same (packets + 2) (omega arith)
    ∙ all_late packets (packets + 2) rest (omega arith) so_far.rises)

fed_packets : (script rest : Timed) (arrivals : List Arrival) → Follows (length arrivals) 2 script rest → packet_inputs script arrivals ≡ feeds (length arrivals) rest arrivals
fed_packets script rest [] so_far = refl
fed_packets script rest (arrival ∷ arrivals) so_far =
    fed_from (length (arrival ∷ arrivals)) arrival.stamp arrival.stamp 1 script rest (arrival ∷ arrivals) (omega arith) so_far

-- the whole list
pub dealt : (script : Timed) (arrivals : List Arrival) → AreInOrder First script
    → let packets = length arrivals in let rest = left packets 1 (left packets 0 script) in
    map (λ timed. Command timed.1) (due packets 0 script) ++ (map (λ timed. Command timed.1) (due packets 1 (left packets 0 script))
    ++ (feeds packets rest arrivals ++ map (λ timed. LateCommand timed.1) (rest_from packets 1 rest arrivals)))
    ≡ inputs_with script arrivals
dealt script arrivals ordered =
    let packets = length arrivals in
    let start : Follows packets 0 script script = follows_at_first packets script ordered in
    let next : Follows packets 1 script (left packets 0 script) = follows_on packets 0 script script start in
    let rest = left packets 1 (left packets 0 script) in
    let behind : Follows packets 2 script rest = follows_on packets 1 script (left packets 0 script) next in
    let P : ℕ → Type 0 = λ k. Follows packets k script (rest_from packets 1 rest arrivals) in
    let e : 1 + packets + 1 ≡ packets + 2 = omega arith in
    let end : Follows packets (packets + 2) script (rest_from packets 1 rest arrivals) = subst P e (rest_follows packets 1 script rest arrivals behind) in
    sym (
    ap (λ commands. commands ++ (commands_that (is_after packets 0) script ++ (packet_inputs script arrivals ++ late_commands script))) (first_due packets script script start)
    ∙ ap (λ commands. map (λ timed. Command timed.1) (due packets 0 script) ++ (commands ++ (packet_inputs script arrivals ++ late_commands script)))
    (after_due packets 0 script (left packets 0 script) (omega arith) next)
    ∙ ap (λ inputs. map (λ timed. Command timed.1) (due packets 0 script) ++ (map (λ timed. Command timed.1) (due packets 1 (left packets 0 script)) ++ (inputs ++ late_commands script)))
    (fed_packets script rest arrivals behind)
    ∙ ap (λ inputs. map (λ timed. Command timed.1) (due packets 0 script) ++ (map (λ timed. Command timed.1) (due packets 1 (left packets 0 script)) ++ (feeds packets rest arrivals ++ inputs)))
    (late_due packets script (rest_from packets 1 rest arrivals) end))

five_parts : {A : Type 0} (a b c d : List A) → [] ++ a ++ b ++ c ++ d ≡ a ++ (b ++ (c ++ d))
five_parts a b c d = simp append_assoc

abbrev commands_in : Timed → List Input
commands_in script = map (λ timed. Command timed.1) script

abbrev late_in : Timed → List Input
late_in script = map (λ timed. LateCommand timed.1) script

-- the same, turn by turn
pub whole : (script : Timed) (arrivals : List Arrival) → AreInOrder First script → (packets : ℕ) (all one two end : Timed) (none first second third last : List Input)
    → packets ≡ length arrivals → all ≡ script → none ≡ [] → first ≡ none ++ map (λ timed. Command timed.1) (due packets 0 all) → one ≡ left packets 0 all
    → second ≡ first ++ map (λ timed. Command timed.1) (due packets 1 one) → two ≡ left packets 1 one → third ≡ second ++ feeds packets two arrivals → end ≡ rest_from packets 1 two arrivals
    → last ≡ third ++ map (λ timed. LateCommand timed.1) end → last ≡ inputs_with script arrivals
whole script arrivals ordered packets all one two end none first second third last count is_all is_none is_first is_one is_second is_two is_third is_end is_last =
    let P : ℕ → Type 0 = λ n. (all ≡ script) → (first ≡ none ++ commands_in (due n 0 all)) → (one ≡ left n 0 all) → (second ≡ first ++ commands_in (due n 1 one)) → (two ≡ left n 1 one)
    → (third ≡ second ++ feeds n two arrivals) → (end ≡ rest_from n 1 two arrivals) → last ≡ inputs_with script arrivals in
    subst P (sym count) (λ a f o s t h e.
    let left_all = o ∙ ap (λ cs. left (length arrivals) 0 cs) a in
    let left_one = t ∙ ap (λ cs. left (length arrivals) 1 cs) left_all in
    let rest = e ∙ ap (λ cs. rest_from (length arrivals) 1 cs arrivals) left_one in
    is_last
    ∙ ap (λ cs. third ++ late_in cs) rest
    ∙ ap (λ xs. xs ++ late_in (rest_from (length arrivals) 1 (left (length arrivals) 1 (left (length arrivals) 0 script)) arrivals))
    (h ∙ ap (λ cs. second ++ feeds (length arrivals) cs arrivals) left_one
    ∙ ap (λ xs. xs ++ feeds (length arrivals) (left (length arrivals) 1 (left (length arrivals) 0 script)) arrivals)
    (s ∙ ap (λ cs. first ++ commands_in (due (length arrivals) 1 cs)) left_all
    ∙ ap (λ xs. xs ++ commands_in (due (length arrivals) 1 (left (length arrivals) 0 script)))
    (f ∙ ap (λ cs. none ++ commands_in (due (length arrivals) 0 cs)) a ∙ ap (λ xs. xs ++ commands_in (due (length arrivals) 0 script)) is_none)))
    ∙ five_parts (commands_in (due (length arrivals) 0 script)) (commands_in (due (length arrivals) 1 (left (length arrivals) 0 script)))
    (feeds (length arrivals) (left (length arrivals) 1 (left (length arrivals) 0 script)) arrivals)
    (late_in (rest_from (length arrivals) 1 (left (length arrivals) 1 (left (length arrivals) 0 script)) arrivals))
    ∙ dealt script arrivals ordered)
    is_all is_first is_one is_second is_two is_third is_end
