use Rattle.std.proofs.Common.{◌∙◌, ◌-◌, [], ◌∷◌, sym, ap, subst, arith}
use Rattle.std.specs.Vec.Iter.{into_iter_items}
use Rattle.ng_machine.specs.Spread.{Flight, spread_all, spread_in}
use Rattle.ng_forecast.specs.spread.Following.{Finds, Follows, sent_from}
use Rattle.ng_forecast.specs.spread.Met.{met_all, met_in}
use Rattle.ng_forecast.specs.declared.spread.fate.Fate.{Fate}
use Rattle.ng_forecast.specs.declared.spread.following.Followed.{Followed}
use Rattle.ng_forecast.proofs.spread.Walking.{all_sent, gets_wide, goes_nowhere, goes_on, next, none_left, sends}
use Rattle.ng_forecast.proofs.spread.following.+follow.Goals as goal
use Rattle.ng_forecast.proofs.spread.following.+follow.Goals.{in-Everywhere, in-Nowhere}

pub loop-name-init : goal.loop-name-init
loop-name-init g t c =
    let nodes = c.args.still.now.nodes in
    let f = c.args.flight.now in
    record {
      blank = c.in_ok-find_fate.ensures.blank;
      sending = sends nodes c.args.hops f c.flight.inside.to c.in-Comes.sends.items (into_iter_items c.into_iter-name-iterator.result) c.args.trail.now
          (record { room = c.args.trail.now.room - 1; bag = c.find_fate.new.bag }) c.if-hops-eq0.false (omega (arith, c.if-trail-eq0.false))
          (ap (λ (x : Flight). x.to) c.flight.view_is) c.into_iter-name-iterator.ensures.into_iter_gives.0
          (subst (λ (x : Fate). Finds nodes f x c.args.trail.now.bag.items c.find_fate.new.bag.items) c.in-Comes.is c.in_ok-find_fate.ensures.found);
    }

-- a copy that doesn't arrive
pub loop-name-preserved-in_default : goal.loop-name-preserved-in_default
loop-name-preserved-in_default g t c = record {
  blank = c.loop-name.invariant.blank;
  sending = next c.args.still.now.nodes (c.args.hops - 1) c.flight.inside.to (met_in c.args.still.now.nodes c.args.hops c.args.flight.now)
      (spread_in c.args.still.now.nodes c.args.hops c.args.flight.now) c.loop-name.followed c.args.trail.now c.loop-name.trail (into_iter_items c.loop-name.name-iterator)
      (c.in-Some.name, c.in-Some.packet) (into_iter_items c.next.new.self) [] c.in-Some.ensures.steps.0 c.in_default.ensures.none c.loop-name.invariant.sending;
}

pub follow-requires-after_bounds : goal.follow-requires-after_bounds
follow-requires-after_bounds g t c κs within = c.loop-name.invariant.blank

pub returns-in-TooWide-clause-follows : goal.returns-in-TooWide-clause-follows
returns-in-TooWide-clause-follows g t c =
    let nodes = c.args.still.now.nodes in
    let hops = c.args.hops - 1 in
    let x = c.in-Some-sent_flight.copy in
    let met = met_in nodes c.args.hops c.args.flight.now in
    let spread = spread_in nodes c.args.hops c.args.flight.now in
    let later = sent_from nodes c.flight.inside.to (into_iter_items c.next.new.self) in
    gets_wide (met_in nodes hops x) (met_all (λ f. met_in nodes hops f) later) met (spread_in nodes hops x) (spread_all (λ f. spread_in nodes hops f) later) spread
    c.loop-name.followed c.args.trail.now c.loop-name.trail
    (next nodes hops c.flight.inside.to met spread c.loop-name.followed c.args.trail.now c.loop-name.trail (into_iter_items c.loop-name.name-iterator)
    (c.in-Some.name, c.in-Some.packet) (into_iter_items c.next.new.self) (x ∷ []) c.in-Some.ensures.steps.0 c.in-Some-sent_flight.ensures.some c.loop-name.invariant.sending)
    (subst (λ (f : Followed). Follows (met_in nodes hops x) (spread_in nodes hops x) f c.loop-name.trail c.follow.new.trail) c.in-TooWide.is c.in_ok-follow.ensures.follows)

pub loop-name-preserved : goal.loop-name-preserved
loop-name-preserved g t c =
    let nodes = c.args.still.now.nodes in
    let hops = c.args.hops - 1 in
    let x = c.in-Some-sent_flight.copy in
    let met = met_in nodes c.args.hops c.args.flight.now in
    let spread = spread_in nodes c.args.hops c.args.flight.now in
    let later = sent_from nodes c.flight.inside.to (into_iter_items c.next.new.self) in
    let so_far = next nodes hops c.flight.inside.to met spread c.loop-name.followed c.args.trail.now c.loop-name.trail (into_iter_items c.loop-name.name-iterator)
    (c.in-Some.name, c.in-Some.packet) (into_iter_items c.next.new.self) (x ∷ []) c.in-Some.ensures.steps.0 c.in-Some-sent_flight.ensures.some c.loop-name.invariant.sending in
    record {
      blank = c.in_ok-follow.ensures.blank;
      sending = elim c.match-branch-4.branch [
        | in-Everywhere w ↦
            rw w.followed-is
            (goes_on (met_in nodes hops x) (met_all (λ f. met_in nodes hops f) later) met (spread_in nodes hops x) (spread_all (λ f. spread_in nodes hops f) later) spread
            c.loop-name.followed c.args.trail.now c.loop-name.trail c.follow.new.trail so_far
            (subst (λ (f : Followed). Follows (met_in nodes hops x) (spread_in nodes hops x) f c.loop-name.trail c.follow.new.trail) w.in-Everywhere.is c.in_ok-follow.ensures.follows))
        | in-Nowhere w ↦
            rw w.followed-is
            (goes_nowhere (met_in nodes hops x) (met_all (λ f. met_in nodes hops f) later) met (spread_in nodes hops x) (spread_all (λ f. spread_in nodes hops f) later) spread
            c.loop-name.followed c.args.trail.now c.loop-name.trail c.follow.new.trail so_far
            (subst (λ (f : Followed). Follows (met_in nodes hops x) (spread_in nodes hops x) f c.loop-name.trail c.follow.new.trail) w.in-Nowhere.is c.in_ok-follow.ensures.follows))
      ];
    }

pub returns-clause-blank : goal.returns-clause-blank
returns-clause-blank g t c = c.loop-name.invariant.blank

pub returns-clause-follows : goal.returns-clause-follows
returns-clause-follows g t c =
    all_sent c.args.still.now.nodes (c.args.hops - 1) c.flight.inside.to (met_in c.args.still.now.nodes c.args.hops c.args.flight.now)
    (spread_in c.args.still.now.nodes c.args.hops c.args.flight.now) c.loop-name.followed c.args.trail.now c.loop-name.trail (into_iter_items c.loop-name.name-iterator)
    (none_left (into_iter_items c.loop-name.name-iterator) (sym c.loop-name.name-iterator.rest.ok.0 ∙ c.in-None.ensures.steps.0)) c.loop-name.invariant.sending
