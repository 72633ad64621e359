use Rattle.std.proofs.Common.{◌≡◌, ◌∙◌, [], ◌∷◌, sym, ap, subst, ⊎_elim, rules}
use mathlib.Core.Option.{some}
use lib.ListN.{get_elem?}
use Rattle.std.specs.Prelude.{Contains}
use Rattle.crossbeam_queue.specs.Fifo.{Merges}
use Rattle.crossbeam_queue.specs.Passes.{view}
use Rattle.ng_turn.specs.declared.rule.View.TheVariants.{Waits}
use Rattle.ng_turn.specs.Rule.{IsRuled, Knows, joined_view, spent_view}
use Rattle.ng_turn.specs.Words.{IsPassAt, desk_of}
use Rattle.ng_turn.proofs.Steps.{gathers}
use Rattle.ng_turn.proofs.Passes.{EachAt, each_last, each_less, none_at, gathered_first, gathered_more}
use Rattle.ng_turn.proofs.turn.Turn.end.Goals as goal
use Rattle.ng_turn.proofs.turn.Turn.end.Goals.{In-Some-pop}

pub loop-pass-init : goal.loop-pass-init
loop-pass-init g c =
    let blank = g.T.Desked.blank in
    let all = c.args.passes.items in
    let less = c.pop.new.self.items in
    let pass = c.in-Some.field-0 in
    let is = c.in-Some.ensures.items in
    let own : EachAt (λ k p. IsPassAt blank c.args.self.place p) all = λ k p at. (c.requires.1 k p at).0 in
    let mine = each_last (λ k p. IsPassAt blank c.args.self.place p) all less pass is own in (
      mine.0,
      gathered_first blank all less pass (view pass.ticket) is mine.1,
      each_less (λ k p. IsPassAt blank c.args.self.place p) all less pass is own,
    )

-- the pass that was popped is of this place
popped : (g : _) (c : In-Some-pop g) → IsPassAt g.T.Desked.blank c.args.self.place c.in-Some-pop.pass
popped g c =
    each_last (λ k p. IsPassAt g.T.Desked.blank c.args.self.place p) c.loop-pass.passes.items
    c.pop-in-loop-pass.new.self.items c.in-Some-pop.pass c.in-Some-pop.ensures.items c.loop-pass.invariant.2

pub absorb-requires-clause-queue : goal.absorb-requires-clause-queue
absorb-requires-clause-queue g c = (c.loop-pass.invariant.0, (popped g (goal.at.absorb-requires-clause-queue g c).In-Some-pop).0)

pub absorb-requires-clause-rule : goal.absorb-requires-clause-rule
absorb-requires-clause-rule g c =
    let desk = g.T.Desked.desk in
    let was = c.loop-pass.invariant.1 in
    let other = popped g (goal.at.absorb-requires-clause-rule g c).In-Some-pop in
    let ticket = c.loop-pass.ticket.id in let ticket' = c.in-Some-pop.pass.ticket.id in
    let there = c.in-Some-pop.pass in let d = (there.seat, desk_of g.T.Desked.blank there) ∷ [] in
    subst (λ v. Merges (IsRuled desk) ticket v ticket' (view there.ticket) (joined_view v (view there.ticket)) spent_view) (sym was.waits)
    (subst (λ w. Merges (IsRuled desk) ticket (Waits was.desks) ticket' w (joined_view (Waits was.desks) w) spent_view) (sym other.1)
    (gathers desk ticket ticket' was.desks d))

pub loop-pass-preserved : goal.loop-pass-preserved
loop-pass-preserved g c =
    let blank = g.T.Desked.blank in
    let was = c.loop-pass.invariant in
    let pass = c.in-Some-pop.pass in
    let other = popped g (goal.at.loop-pass-preserved g c).In-Some-pop in
    let left = c.loop-pass.passes.items in
    let less = c.pop-in-loop-pass.new.self.items in
    let is = c.in-Some-pop.ensures.items in
    let kept = c.absorb.ensures.queue in (
      (kept.0 ∙ was.0.0, kept.2 ∙ was.0.1),
      gathered_more blank c.args.passes.items left less pass (view c.loop-pass.ticket)
          (view c.absorb.new.pass) is other.1 c.absorb.ensures.rule was.1,
      each_less (λ k p. IsPassAt blank c.args.self.place p) left less pass is was.2,
    )

pub wait_and_pop-requires-clause-waits : goal.wait_and_pop-requires-clause-waits
wait_and_pop-requires-clause-waits g c = let was = c.loop-pass.invariant.1 in (was.desks, was.waits)

pub returns : goal.returns
returns g c =
    let desk = g.T.Desked.desk in
    let blank = g.T.Desked.blank in
    let was = c.loop-pass.invariant.1 in
    let value = c.wait_and_pop.result in
    λ k p at. ⊎_elim
    (λ (there : get_elem? c.loop-pass.passes.items k ≡ some p). absurd (none_at c.loop-pass.passes.items k p (search rules) there))
    (λ (had : Contains was.desks (p.seat, desk_of blank p)).
    let same = (c.requires.1 k p at).1 in
    ap (desk value) (sym same)
    ∙ c.wait_and_pop.ensures.desks p.seat (desk_of blank p) (subst (λ v. Knows desk v p.seat (desk_of blank p)) (sym was.waits) had))
    (was.each k p at)
