use Rattle.std.proofs.Common.{◌+◌, sym, ap, ◌∙◌, subst, arith, rules}
use Rattle.ng_machine.specs.Feed.{Request, begin_command, feed_request}
use Rattle.ng_machine.specs.World.{World}
use Rattle.ng_queue.specs.pending.Holds.{in_world}
use Rattle.ng_core_state.specs.Stands.{Stands}
use Rattle.ng_core.specs.intake.Asked.{FitsHeader}
use Rattle.ng_core.proofs.intake.Names.{orders_fit}
use Rattle.ng_core.proofs.intake.Numbers.{low_numbers}
use Rattle.ng_core.proofs.intake.feeding.feed_command.Goals as goal

pub carry_out-requires-clause-numbers : goal.carry_out-requires-clause-numbers
carry_out-requires-clause-numbers g c κs within =
    let W = c.requires.standing in
    c.begin.ensures.numbers 1 (low_numbers c.make_room.new.state W.0 1 (c.make_room.ensures.stands W.0 W.1) W.2 (omega arith))

pub returns-clause-fed : goal.returns-clause-fed
returns-clause-fed g c = λ a given r S.
    let number = c.args.command.now.number in
    let v : World = begin_command (record (a.world) { fed = a.world.fed + 1 }) number in
    subst (λ (w : World). Stands c.carry_out.new.state (in_world a w))
    (c.in_ok-decided.ensures given v r (sym S.graph.nodes) ∙ ap (λ (q : Request). feed_request given v number q) c.in_ok-asked.ensures)
    (c.carry_out.ensures (in_world a v) (c.begin.ensures.stands a (c.make_room.ensures.stands a S)))

pub decide-requires : goal.decide-requires
decide-requires g c = (search rules, subst FitsHeader (sym c.in_ok-asked.ensures) (orders_fit c.args.command.now.what))
