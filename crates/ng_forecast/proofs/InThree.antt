-- A plain run of three lists of inputs does one list after another. Its first part is the run of the first list alone, whatever
-- the limits of both.
use Rattle.std.proofs.Common.{◌≡◌, ◌∙◌, ℕ, ◌+◌, ◌≤◌, List, [], ◌∷◌, ◌++◌, length, length-append, append_assoc, append-nil, drop, true, false, refl, sym, ap, subst, arith, true≢false}
use Rattle.std.specs.declared.option.Option.TheVariants.{Some}
use Rattle.std.specs.List.{list_any}
use Rattle.std.proofs.lemmas.Bool.{or_parts}
use Rattle.std.proofs.lemmas.List.{append_cancel_right, drop_at, map-append}
use Rattle.std.proofs.lemmas.List.Folds.{list_any-append}
use Rattle.ng_base.specs.declared.event.Event.{Event}
use Rattle.ng_base.specs.declared.event.Event.TheVariants.{Feed, Take, Back, Apply, Stop}
use Rattle.ng_machine.specs.declared.input.Input.{Input}
use Rattle.ng_machine.specs.Feed.{RunInput}
use Rattle.ng_machine.specs.World.{World}
use Rattle.ng_machine.specs.Run.{RunState, after, after_all, beginning}
use Rattle.ng_machine.specs.Orderly.{IsQuiet, OrderlyFrom}
use Rattle.ng_machine.specs.Plain.{IsPlain, PlainFrom}
use Rattle.ng_machine.specs.Laws.{Setting, run_state_after, start, world_after}
use Rattle.ng_machine.proofs.Moves.{KeptAt, kept_run}
use Rattle.ng_machine.proofs.Ordering.{after-append, kept_start, orderly_back, orderly_front}
use Rattle.ng_machine.proofs.PlainSteps.{plain_is_one}
use Rattle.ng_laws.specs.still_graph.Bag.{inputs_from, is_stop}
use Rattle.ng_forecast.specs.ComesTrue.{Feeds}
use Rattle.ng_forecast.proofs.FedInputs.{fed_in_order, some_of}
use Rattle.ng_forecast.proofs.FirstInputs.{IsParted, first_alone, parted, with_inputs}
use Rattle.ng_forecast.proofs.MoreBudget.{more_budget}
use Rattle.ng_forecast.proofs.NothingMore.{nothing_more}

-- PLAIN JOURNALS THAT CAME TO REST, AND THEIR PARTS

-- a plain journal from here, without a Stop
pub record IsGoing (given : RunInput) (budget : ℕ) (at : RunState) (journal : List Event) : Type 0 where
  pub orderly : OrderlyFrom given budget 1 at journal
  pub plainly : PlainFrom given at journal
  pub unstopped : list_any is_stop journal ≡ false

plain_front : (given : RunInput) (at : RunState) (first rest : List Event) → PlainFrom given at (first ++ rest) → PlainFrom given at first
plain_front given at [] rest p = tt
plain_front given at (event ∷ first) rest p = (p.0, plain_front given (after given at event) first rest p.1)

plain_back : (given : RunInput) (at : RunState) (first rest : List Event) → PlainFrom given at (first ++ rest)
    → PlainFrom given (after_all given at first) rest
plain_back given at [] rest p = p
plain_back given at (event ∷ first) rest p = plain_back given (after given at event) first rest p.1

unstopped_parts : (first rest : List Event) → list_any is_stop (first ++ rest) ≡ false
    → (list_any is_stop first ≡ false) × (list_any is_stop rest ≡ false)
unstopped_parts first rest on = or_parts (list_any is_stop first) (list_any is_stop rest) (sym (list_any-append is_stop first rest) ∙ on)

going_first : (given : RunInput) (budget : ℕ) (at : RunState) (first rest : List Event) → IsGoing given budget at (first ++ rest)
    → IsGoing given budget at first
going_first given budget at first rest going = record {
  orderly = orderly_front given budget 1 at first rest going.orderly;
  plainly = plain_front given at first rest going.plainly;
  unstopped = (unstopped_parts first rest going.unstopped).0;
}

-- and after it nothing is left to do
pub record IsResting (given : RunInput) (budget : ℕ) (at : RunState) (journal : List Event) : Type 0 where
  pub going : IsGoing given budget at journal
  pub quiet : IsQuiet given (after_all given at journal).world

resting_rest : (given : RunInput) (budget : ℕ) (at : RunState) (first rest : List Event) → IsResting given budget at (first ++ rest)
    → IsResting given budget (after_all given at first) rest
resting_rest given budget at first rest resting = record {
  going = record {
    orderly = orderly_back given budget 1 at first rest resting.going.orderly;
    plainly = plain_back given at first rest resting.going.plainly;
    unstopped = (unstopped_parts first rest resting.going.unstopped).1;
  };
  quiet = subst (λ (x : RunState). IsQuiet given x.world) (after-append given at first rest) resting.quiet;
}

-- a run that isn't stopped goes on
runs_on : (given : RunInput) (at : RunState) (journal : List Event) → list_any is_stop journal ≡ false
    → (after_all given at journal).stopped ≡ at.stopped
runs_on given at [] on = refl
runs_on given at (Feed ∷ events) on = runs_on given (after given at Feed) events (or_parts false (list_any is_stop events) on).1
runs_on given at (Take seat id ∷ events) on = runs_on given (after given at (Take seat id)) events (or_parts false (list_any is_stop events) on).1
runs_on given at (Back id ∷ events) on = runs_on given (after given at (Back id)) events (or_parts false (list_any is_stop events) on).1
runs_on given at (Apply id ∷ events) on = runs_on given (after given at (Apply id)) events (or_parts false (list_any is_stop events) on).1
runs_on given at (Stop ∷ events) on = absurd (true≢false (or_parts true (list_any is_stop events) on).0)

resting_plain : (w : World) (given : RunInput) (budget : ℕ) (journal : List Event) → IsPlain w given budget journal → list_any is_stop journal ≡ false
    → IsResting given budget (beginning w) journal
resting_plain w given budget journal plain on = record {
  going = record { orderly = plain.orderly; plainly = plain.plainly; unstopped = on };
  quiet = plain.whole.quiet (runs_on given (beginning w) journal on);
}

-- such a journal is parted where so many inputs are fed
parted_resting : (given : RunInput) (budget n : ℕ) (at : RunState) (journal : List Event) → n ≤ length given.inputs → at.world.fed ≤ n
    → IsResting given budget at journal → IsParted given n at journal
parted_resting given budget n at journal many few resting =
    parted given budget n at journal many few resting.going.orderly resting.going.plainly resting.going.unstopped resting.quiet

-- THE FIRST PART

abbrev pub with_first : Setting → List Input → Setting
with_first s xs = record s { given = with_inputs s.given xs }

-- after the first part, which is this journal, the first inputs are done
pub record HasFirst (s : Setting) (xs : List Input) (journal commands : List Event) : Type 0 where
  pub rest : List Event
  pub parts : journal ≡ commands ++ rest
  pub idle : (run_state_after s commands).world.pending ≡ []
  pub fed : (run_state_after s commands).world.fed ≡ length xs
  pub same : run_state_after (with_first s xs) commands ≡ run_state_after s commands

-- the sum of both limits is a limit for both
plain_with : (w : World) (given : RunInput) (budget more : ℕ) (journal : List Event) → IsPlain w given budget journal
    → list_any is_stop journal ≡ false
    → budget ≤ more → IsPlain w given more journal
plain_with w given budget more journal plain on le = record {
  orderly = more_budget given budget more 1 (beginning w) journal le on plain.orderly;
  plainly = plain.plainly;
  whole = plain.whole;
}

has_first : (s : Setting) (xs ys : List Input) (budget : ℕ) (journal commands : List Event) → s.given.inputs ≡ xs ++ ys
    → IsPlain (start s) s.given s.budget journal → list_any is_stop journal ≡ false
    → IsPlain (start s) (with_inputs s.given xs) budget commands → list_any is_stop commands ≡ false → HasFirst s xs journal commands
has_first s xs ys budget journal commands is run on alone rested =
    let at = beginning (start s) in
    let sum : length s.given.inputs ≡ length xs + length ys = ap length is ∙ length-append xs ys in
    let resting = resting_plain (start s) s.given s.budget journal run on in
    let cut = parted_resting s.given s.budget (length xs) at journal (omega arith) (omega arith) resting in
    let going = going_first s.given s.budget at cut.first cut.rest (subst (IsGoing s.given s.budget at) cut.parts resting.going) in
    let also = first_alone s.given xs ys s.budget at cut.first is going.orderly going.plainly going.unstopped (omega (arith, cut.fed)) in
    let first : IsPlain (start s) (with_inputs s.given xs) s.budget cut.first = record {
      orderly = also.orderly;
      plainly = also.plainly;
      whole = record {
        quiet = λ on. record {
          idle = ap (λ (x : RunState). x.world.pending) also.same ∙ cut.idle;
          fed = ap (λ (x : RunState). x.world.fed) also.same ∙ cut.fed;
        };
      };
    } in
    let one : cut.first ≡ commands = plain_is_one (record (with_first s xs) { budget = s.budget + budget }) cut.first commands
    (plain_with (start s) (with_inputs s.given xs) s.budget (s.budget + budget) cut.first first going.unstopped (omega arith))
    (plain_with (start s) (with_inputs s.given xs) budget (s.budget + budget) commands alone rested (omega arith)) in
    record {
      rest = cut.rest;
      parts = cut.parts ∙ ap (λ (l : List Event). l ++ cut.rest) one;
      idle = subst (λ (l : List Event). (run_state_after s l).world.pending ≡ []) one cut.idle;
      fed = subst (λ (l : List Event). (run_state_after s l).world.fed ≡ length xs) one cut.fed;
      same = subst (λ (l : List Event). run_state_after (with_first s xs) l ≡ run_state_after s l) one also.same;
    }

-- THE OTHER PARTS

-- what is fed from one number of inputs to another
fed_between : (given : RunInput) (budget : ℕ) (at : RunState) (journal : List Event) (xs ys zs : List Input) → given.inputs ≡ xs ++ (ys ++ zs)
    → at.world.fed ≡ length xs → (after_all given at journal).world.fed ≡ length xs + length ys → OrderlyFrom given budget 1 at journal
    → inputs_from given at.world.fed journal ≡ some_of ys
fed_between given budget at journal xs ys zs is from to o =
    let front : drop at.world.fed given.inputs ≡ ys ++ zs =
    ap (drop at.world.fed) is ∙ drop_at xs (ys ++ zs) at.world.fed (sym from) in
    let back : drop (after_all given at journal).world.fed given.inputs ≡ zs =
    ap (drop (after_all given at journal).world.fed) (is ∙ sym (append_assoc xs ys zs))
    ∙ drop_at (xs ++ ys) zs (after_all given at journal).world.fed (length-append xs ys ∙ sym to) in
    append_cancel_right (inputs_from given at.world.fed journal) (some_of ys) (some_of zs)
    (ap (λ (unfed : List Input). inputs_from given at.world.fed journal ++ some_of unfed) (sym back)
    ∙ (fed_in_order given budget 1 at journal o ∙ (ap some_of front ∙ map-append (λ input. Some input) ys zs)))

-- a run of three lists: the commands, which are the run of the first list alone; the traffic; and the late commands
pub record IsInThree (s : Setting) (xs ys zs : List Input) (journal commands : List Event) : Type 0 where
  pub traffic : List Event
  pub late : List Event
  pub parts : journal ≡ commands ++ (traffic ++ late)
  pub same : world_after (with_first s xs) commands ≡ world_after s commands
  pub idle_before : (world_after s commands).pending ≡ []
  pub feeds : Feeds s commands traffic ys
  pub feeds_late : Feeds s (commands ++ traffic) late zs
  pub none_late : zs ≡ [] → late ≡ []
  pub idle : (world_after s (commands ++ traffic)).pending ≡ []
  pub unstopped : list_any is_stop traffic ≡ false

-- after two parts, one after the other
feeds_then : (s : Setting) (commands traffic late : List Event) (zs : List Input)
    → inputs_from s.given (after_all s.given (run_state_after s commands) traffic).world.fed late ≡ some_of zs → Feeds s (commands ++ traffic) late zs
feeds_then s commands traffic late zs =
    subst (λ (x : RunState). inputs_from s.given x.world.fed late ≡ some_of zs) (sym (after-append s.given (beginning (start s)) commands traffic))

idle_then : (s : Setting) (commands traffic : List Event) → (after_all s.given (run_state_after s commands) traffic).world.pending ≡ []
    → (world_after s (commands ++ traffic)).pending ≡ []
idle_then s commands traffic =
    subst (λ (x : RunState). x.world.pending ≡ []) (sym (after-append s.given (beginning (start s)) commands traffic))

-- the last inputs alone are left: they are fed, and if there are none, nothing is done
late_fed : (s : Setting) (at : RunState) (late : List Event) (xs ys zs : List Input) → s.given.inputs ≡ xs ++ (ys ++ zs)
    → at.world.fed ≡ length xs + length ys → IsResting s.given s.budget at late → inputs_from s.given at.world.fed late ≡ some_of zs
late_fed s at late xs ys zs is fed resting =
    let all : length s.given.inputs ≡ length (xs ++ ys) + length zs =
    ap length (is ∙ sym (append_assoc xs ys zs)) ∙ length-append (xs ++ ys) zs in
    fed_between s.given s.budget at late (xs ++ ys) zs []
    (is ∙ (sym (append_assoc xs ys zs) ∙ ap (λ (l : List Input). (xs ++ ys) ++ l) (sym (append-nil zs))))
    (fed ∙ sym (length-append xs ys)) (resting.quiet.fed ∙ all) resting.going.orderly

late_none : (s : Setting) (at : RunState) (late : List Event) (xs ys zs : List Input) → s.given.inputs ≡ xs ++ (ys ++ zs)
    → at.world.fed ≡ length xs + length ys → KeptAt s.budget at → at.world.pending ≡ [] → IsResting s.given s.budget at late → zs ≡ [] → late ≡ []
late_none s at late xs ys zs is fed kept idle resting none =
    let all : length s.given.inputs ≡ length xs + (length ys + length zs) =
    ap length is ∙ (length-append xs (ys ++ zs) ∙ ap (λ (n : ℕ). length xs + n) (length-append ys zs)) in
    let few : length zs ≡ 0 = ap length none in
    nothing_more s.given s.budget 1 at late kept idle (omega arith) resting.going.unstopped resting.going.orderly

-- from the first part and the place where the traffic is done
three_of : (s : Setting) (xs ys zs : List Input) (journal commands : List Event) → s.given.inputs ≡ xs ++ (ys ++ zs)
    → (front : HasFirst s xs journal commands) → IsResting s.given s.budget (beginning (start s)) (commands ++ front.rest)
    → IsParted s.given (length xs + length ys) (run_state_after s commands) front.rest → IsInThree s xs ys zs journal commands
three_of s xs ys zs journal commands is front whole cut =
    let at = run_state_after s commands in
    let both : IsResting s.given s.budget at (cut.first ++ cut.rest) =
    subst (IsResting s.given s.budget at) cut.parts (resting_rest s.given s.budget (beginning (start s)) commands front.rest whole) in
    let traffic = going_first s.given s.budget at cut.first cut.rest both.going in
    let late = resting_rest s.given s.budget at cut.first cut.rest both in
    let kept = kept_run s.given s.budget 1 at cut.first traffic.orderly
    (kept_run s.given s.budget 1 (beginning (start s)) commands
    (going_first s.given s.budget (beginning (start s)) commands front.rest whole.going).orderly (kept_start s)) in
    let then = after_all s.given at cut.first in
    record {
      traffic = cut.first;
      late = cut.rest;
      parts = front.parts ∙ ap (λ (l : List Event). commands ++ l) cut.parts;
      same = ap (λ (x : RunState). x.world) front.same;
      idle_before = front.idle;
      feeds = fed_between s.given s.budget at cut.first xs ys zs is front.fed cut.fed traffic.orderly;
      feeds_late = feeds_then s commands cut.first cut.rest zs (late_fed s then cut.rest xs ys zs is cut.fed late);
      none_late = late_none s then cut.rest xs ys zs is cut.fed kept cut.idle late;
      idle = idle_then s commands cut.first cut.idle;
      unstopped = traffic.unstopped;
    }

three_after : (s : Setting) (xs ys zs : List Input) (journal commands : List Event) → s.given.inputs ≡ xs ++ (ys ++ zs)
    → IsResting s.given s.budget (beginning (start s)) journal → HasFirst s xs journal commands → IsInThree s xs ys zs journal commands
three_after s xs ys zs journal commands is resting front =
    let at = run_state_after s commands in
    let whole = subst (IsResting s.given s.budget (beginning (start s))) front.parts resting in
    let all : length s.given.inputs ≡ length xs + (length ys + length zs) =
    ap length is ∙ (length-append xs (ys ++ zs) ∙ ap (λ (n : ℕ). length xs + n) (length-append ys zs)) in
    three_of s xs ys zs journal commands is front whole
    (parted_resting s.given s.budget (length xs + length ys) at front.rest (omega arith) (omega (arith, front.fed))
    (resting_rest s.given s.budget (beginning (start s)) commands front.rest whole))

pub in_three : (s : Setting) (xs ys zs : List Input) (budget : ℕ) (journal commands : List Event) → s.given.inputs ≡ xs ++ (ys ++ zs)
    → IsPlain (start s) s.given s.budget journal → list_any is_stop journal ≡ false
    → IsPlain (start s) (with_inputs s.given xs) budget commands → list_any is_stop commands ≡ false → IsInThree s xs ys zs journal commands
in_three s xs ys zs budget journal commands is run on alone rested =
    three_after s xs ys zs journal commands is (resting_plain (start s) s.given s.budget journal run on)
    (has_first s xs (ys ++ zs) budget journal commands is run on alone rested)
