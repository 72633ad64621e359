use Rattle.std.proofs.Common.{◌≡◌, ◌∙◌, List, ◌∷◌, length, flat_map, sym, ap, subst, rules}
use Rattle.ng_machine.specs.declared.item.Item.{Item}
use Rattle.ng_machine.specs.Change.{change_all}
use Rattle.ng_machine.specs.Retire.{aftermath}
use Rattle.ng_machine.specs.World.{World}
use Rattle.ng_queue.specs.pending.Holds.{in_world}
use Rattle.ng_core_state.specs.Stands.{Stands}
use Rattle.ng_core_apply.proofs.removal.Dropped.{followed}
use Rattle.ng_core_apply.proofs.removal.Rooms.{nothing_left}
use Rattle.ng_core_apply.proofs.removal.drops.follow_all.Goals as goal

pub loop-dropped-preserved : goal.loop-dropped-preserved
loop-dropped-preserved g c =
    let next : c.loop-dropped.dropped-iterator.rest.items ≡ c.in-Some.dropped ∷ c.next.new.self.rest.items = search rules in
    followed c.args.state.now c.loop-dropped.state c.follow.new.state c.args.stamp c.args.items.items c.in-Some.dropped c.next.new.self.rest.items c.loop-dropped.dropped-iterator.rest.items next
    c.loop-dropped.invariant c.follow.ensures.stands c.follow.ensures.told c.follow.ensures.spares c.follow.ensures.graph c.follow.ensures.numbers

pub loop-dropped-preserved-in-Some : goal.loop-dropped-preserved-in-Some
loop-dropped-preserved-in-Some g c =
    let next : c.loop-dropped.dropped-iterator.rest.items ≡ c.in-Some.dropped ∷ c.next.new.self.rest.items = search rules in
    followed c.args.state.now c.loop-dropped.state c.follow.new.state c.args.stamp c.args.items.items c.in-Some.dropped c.next.new.self.rest.items c.loop-dropped.dropped-iterator.rest.items next
    c.loop-dropped.invariant c.follow.ensures.stands c.follow.ensures.told c.follow.ensures.spares c.follow.ensures.graph c.follow.ensures.numbers

pub loop-dropped-preserved-in-Some-2 : goal.loop-dropped-preserved-in-Some-2
loop-dropped-preserved-in-Some-2 g c =
    let next : c.loop-dropped.dropped-iterator.rest.items ≡ c.in-Some.dropped ∷ c.next.new.self.rest.items = search rules in
    followed c.args.state.now c.loop-dropped.state c.follow.new.state c.args.stamp c.args.items.items c.in-Some.dropped c.next.new.self.rest.items c.loop-dropped.dropped-iterator.rest.items next
    c.loop-dropped.invariant c.follow.ensures.stands c.follow.ensures.told c.follow.ensures.spares c.follow.ensures.graph c.follow.ensures.numbers

pub returns-clause-stands : goal.returns-clause-stands
returns-clause-stands g c = λ a at S.
    let gone : length c.loop-dropped.dropped-iterator.rest.items ≡ 0 = search rules in
    let none = nothing_left c.loop-dropped.dropped-iterator.rest.items gone in
    let r = c.loop-dropped.invariant.stands a at S in
    subst (λ (w : World). Stands c.loop-dropped.state (in_world a w)) (sym (ap (λ (l : List Item). change_all at c.args.stamp r.0 (flat_map aftermath l)) none) ∙ r.2) r.1
