use Rattle.std.proofs.Common.{Bool, refl, ap}
use Rattle.ng_machine.specs.declared.item.Item.{Item}
use Rattle.ng_machine.specs.World.{item_id}
use Rattle.ng_queue.proofs.pending.HeldItems.{next_above, accepted_held}
use Rattle.ng_queue.proofs.pending.pending.Pending.accept.Goals as goal

pub push-requires-clause-above : goal.push-requires-clause-above
push-requires-clause-above c = next_above c.args.self.now c.requires.holds.0 c.args.to.0 c.requires.holds.1

pub returns-clause-holds : goal.returns-clause-holds
returns-clause-holds c = λ a H.
    accepted_held c.args.self.now _ a c.args.to c.args.kind c.args.body c.args.tag c.args.stamp _ H c.requires.there
    (ap (λ (b : Bool). let x : Item = record { id = item_id c.args.self.now.tally.next_item; to = c.args.to; body = c.args.body; writer = b; tag = c.args.tag; stamp = c.args.stamp } in x) c.is_writer-writer.ensures)
    c.push.ensures.lists c.accept.ensures refl
