use Rattle.std.proofs.Common.{List, length, flat_map, sym, subst}
use Rattle.ng_machine.specs.declared.item.Item.{Item}
use Rattle.ng_machine.specs.Change.{change_all, retire}
use Rattle.ng_machine.specs.Retire.{aftermath}
use Rattle.ng_queue.specs.pending.Holds.{in_world}
use Rattle.ng_queue.specs.tally.Tally.{HasNumbers}
use Rattle.ng_core_state.specs.Stands.{Stands}
use Rattle.ng_core_apply.proofs.removal.retiring.remove.Goals as goal

pub follow_all-requires-clause-numbers : goal.follow_all-requires-clause-numbers
follow_all-requires-clause-numbers g c κs within =
    let W = c.requires.work in
    subst (λ (l : List Item). HasNumbers (length l) c.retire-node.new.state.pending.tally) (sym (c.retire-node.ensures.items W.0 W.1.stands W.1.none)) (c.retire-node.ensures.numbers _ W.1.numbers)

pub returns-clause-stands : goal.returns-clause-stands
returns-clause-stands g c = λ a S none.
    subst (λ (l : List Item). Stands c.follow_all.new.state (in_world a (change_all c.args.at c.args.stamp (retire a.world c.args.at) (flat_map aftermath l)))) (c.retire-node.ensures.items a S none)
    (c.follow_all.ensures.stands (in_world a (retire a.world c.args.at)) c.args.at (c.retire-node.ensures.stands a S none))
