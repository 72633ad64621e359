-- What a forecast tells is what a run without workers leaves.
use Rattle.std.proofs.Common.{◌≡◌, ◌∙◌, ℕ, ◌+◌, ◌||◌, List, [], ◌∷◌, ◌++◌, append_assoc, map, Bool, true, false, refl, sym, ap, subst, arith}
use Rattle.std.specs.declared.option.Option.TheVariants.{Some}
use Rattle.std.specs.List.{list_any}
use Rattle.ng_base.specs.declared.event.Event.{Event}
use Rattle.ng_base.specs.declared.event.Event.TheVariants.{Feed, Take, Back, Apply, Stop}
use Rattle.ng_base.specs.declared.kind.Kind.{Kind}
use Rattle.ng_machine.specs.declared.input.Input.{Input}
use Rattle.ng_machine.specs.declared.item.Item.{Item}
use Rattle.ng_machine.specs.Laws.{Setting, start, world_after}
use Rattle.ng_machine.specs.Orderly.{OrderlyFrom}
use Rattle.ng_machine.specs.Plain.{IsPlain}
use Rattle.ng_machine.specs.Feed.{RunInput}
use Rattle.ng_machine.specs.Run.{RunState, after_all, beginning}
use Rattle.ng_machine.specs.Spread.{Flight, Spread, spread_of_all, waiting}
use Rattle.ng_machine.specs.Words.{Every}
use Rattle.ng_machine.specs.World.{World, start_of}
use Rattle.ng_machine.proofs.Ordering.{after-append, orderly_front}
use Rattle.ng_machine.proofs.PlainSteps.{nothing_in}
use Rattle.ngctl_script.specs.Script.{commands_of}
use Rattle.ngctl_script.specs.declared.feed.arrival.Arrival.{Arrival}
use Rattle.ngctl_script.specs.feed.Inputs.{Timed, commands_that, is_first}
use Rattle.ngctl_script.specs.feed.Merge.{merged}
use Rattle.ng_table.specs.reading.Reading.{given}
use Rattle.ng_laws.specs.still_graph.Bag.{IsTraffic, IsTrafficAfter, LosesNothing, arrivals, flights_of, in_spread, inputs_from, is_stop, left_of}
use Rattle.ng_laws.proofs.still_graph.Bagged.{same_bag}
use Rattle.ng_args.specs.declared.words.ForecastWords.{ForecastWords}
use Rattle.ng_args.specs.declared.words.Words.{Words}
use Rattle.ng_call.specs.Found.{Found, captures_in}
use Rattle.ng_call.specs.Run as run
use Rattle.ng_call.specs.Writes.{is_stopped}
use Rattle.ng_forecast.specs.ComesTrue.{AreDone, ComesTrue, ForecastsComeTrue, IsForecastOf, LostNone, NoneBetween, late_in, port_names, run_world, still_world, traffic_in}
use Rattle.ng_forecast.specs.Steps.{flights_in, most_applied}
use Rattle.ng_forecast.proofs.LossesStay.{losses_stay}
use Rattle.ng_forecast.proofs.InThree.{IsInThree, in_three as run_in_three}
use Rattle.ng_forecast.proofs.PacketsAlone.{are_flights, are_traffic, in_three as inputs_in_three}
use Rattle.ng_forecast.proofs.PlacesCounted.{leaves_bag}

-- both words for a Stop say the same
unstopped : (journal : List Event) → is_stopped journal ≡ list_any is_stop journal
unstopped [] = refl
unstopped (Feed ∷ events) = ap (λ (b : Bool). false || b) (unstopped events)
unstopped (Take seat id ∷ events) = ap (λ (b : Bool). false || b) (unstopped events)
unstopped (Back id ∷ events) = ap (λ (b : Bool). false || b) (unstopped events)
unstopped (Apply id ∷ events) = ap (λ (b : Bool). false || b) (unstopped events)
unstopped (Stop ∷ events) = ap (λ (b : Bool). true || b) (unstopped events)

-- in a run of three lists what is fed in the middle is the traffic after the commands
is_traffic : (s : Setting) (xs ys zs : List Input) (journal commands : List Event) (three : IsInThree s xs ys zs journal commands)
    → OrderlyFrom s.given s.budget s.seats (beginning (start s)) journal → Every IsTraffic (map (λ input. Some input) ys)
    → IsTrafficAfter s commands three.traffic
is_traffic s xs ys zs journal commands three orderly traffic = record {
  orderly = orderly_front s.given s.budget s.seats (beginning (start s)) (commands ++ three.traffic) three.late
      (subst (OrderlyFrom s.given s.budget s.seats (beginning (start s)))
      (three.parts ∙ sym (append_assoc commands three.traffic three.late)) orderly);
  frames = λ item there. absurd (nothing_in Item (world_after s commands).pending item three.idle_before there);
  traffic = subst (Every IsTraffic) (sym three.feeds) traffic;
  unstopped = three.unstopped;
}

-- what was lost by the middle of a run was lost by its end, and so by the middle of a run that lost nothing
none_between : (given : RunInput) (at : RunState) (before middle after : List Event)
    → LostNone (after_all given at (before ++ (middle ++ after))).world
    → LosesNothing (after_all given at before).world (after_all given at (before ++ middle)).world
none_between given at before middle after none =
    let there = after_all given at before in
    let then = after_all given there middle in
    let end : LostNone (after_all given then after).world =
    subst (λ (x : RunState). LostNone x.world) (after-append given there middle after)
    (subst (λ (x : RunState). LostNone x.world) (after-append given at before (middle ++ after)) none) in
    let first = losses_stay given there middle in
    let second = losses_stay given then after in
    subst (λ (x : RunState). LosesNothing there.world x.world) (sym (after-append given at before middle))
    (record {
      full = let a = first.full in let b = second.full in let c = end.full in omega arith;
      spool = let a = first.spool in let b = second.spool in let c = end.spool in omega arith;
    })

module _ (kinds : List Kind) (words : Words) (said : ForecastWords) (found : Found) (of : IsForecastOf words said)
    (none : NoneBetween (commands_of found.script)) where
  abbrev s : Setting
  s = run.setting_in kinds words found

  abbrev script : Timed
  script = commands_of found.script

  abbrev coming : List Arrival
  coming = merged (map (λ capture. capture.kept) (captures_in found.captures))

  abbrev first : List Input
  first = commands_that is_first script

  -- both begin with the same world
  starts : start_of said.own_name (port_names said.ports) kinds ≡ start s
  starts =
      ap (λ (own : List ℕ). start_of own (port_names said.ports) kinds) of.own_name
      ∙ ap (λ (ports : List (List ℕ)). start_of words.own_name ports kinds) of.names

  module _ (journal commands : List Event) (bag : Spread) (done : AreDone kinds words said found journal commands bag) where
    three : IsInThree s first (traffic_in found) (late_in found) journal commands
    three =
        run_in_three s first (traffic_in found) (late_in found) most_applied journal commands (inputs_in_three script none coming)
        (done.ran.plain of.alone) (sym (unstopped journal) ∙ done.unstopped)
        (subst (λ (w : World). IsPlain w (given first) most_applied commands) starts done.forecast_ran)
        (sym (unstopped commands) ∙ done.forecast_unstopped)

    world_is : still_world kinds words said found commands ≡ run_world kinds words said found commands
    world_is = ap (λ (w : World). (after_all (given first) (beginning w) commands).world) starts ∙ three.same

    flights_are : flights_of s commands three.traffic ≡ flights_in found
    flights_are =
        ap (λ (items : List Item). waiting items ++ arrivals (inputs_from s.given (world_after s commands).fed three.traffic)) three.idle_before
        ∙ (ap arrivals three.feeds ∙ are_flights script none coming)

    bag_is : spread_of_all (world_after s commands) (flights_of s commands three.traffic) said.hops ≡ Some bag
    bag_is =
        ap (λ (w : World). spread_of_all w (flights_of s commands three.traffic) said.hops) (sym world_is)
        ∙ (ap (λ (flights : List Flight). spread_of_all (still_world kinds words said found commands) flights said.hops) flights_are
        ∙ done.bag_is)

    comes_true : ComesTrue kinds words said found journal commands bag
    comes_true =
        let before = still_world kinds words said found commands in
        let now = run_world kinds words said found (commands ++ three.traffic) in
        let traffic = is_traffic s first (traffic_in found) (late_in found) journal commands three done.ran.orderly
        (are_traffic script none coming) in
        record {
          traffic = three.traffic;
          late = three.late;
          parts = three.parts;
          same_world = sym world_is;
          feeds_traffic = three.feeds;
          feeds_late = three.feeds_late;
          none_late = three.none_late;
          idle = three.idle;
          leaves = λ lost. leaves_bag before now bag (λ meter.
              subst (λ (w : World). left_of now meter ≡ left_of w meter + in_spread meter bag) (sym world_is)
              (same_bag s commands three.traffic said.hops bag traffic
              (subst (λ (w : World). LosesNothing w now) world_is lost) three.idle bag_is meter));
          none_lost = λ none. subst (λ (w : World). LosesNothing w now) (sym world_is)
              (none_between s.given (beginning (start s)) commands three.traffic three.late
              (subst (λ (l : List Event). LostNone (world_after s l)) three.parts none));
        }

pub forecasts_come_true : ForecastsComeTrue
forecasts_come_true kinds words said found journal commands bag of none done = comes_true kinds words said found of none journal commands bag done
