use Rattle.std.proofs.Common.{◌∙◌, ap, refl}
use Rattle.ng_queue.specs.tally.Tally.{without_node}
use Rattle.ng_queue.proofs.pending.HeldItems.{all_wait_there, waiting_there, items_count, numbers_kept, retired_held}
use Rattle.ng_queue.proofs.pending.pending.Pending.retire.Goals as goal

pub purge-items-requires-clause-waits : goal.purge-items-requires-clause-waits
purge-items-requires-clause-waits c = all_wait_there c.args.self.now c.requires.out.0 c.args.at.0 c.requires.out.1 c.requires.out.2

pub drop_for_node-requires-clause-counted : goal.drop_for_node-requires-clause-counted
drop_for_node-requires-clause-counted c =
    items_count c.args.self.now c.requires.out.0 c.args.at c.deref.result.now c.requires.out.1
    (c.deref.ensures.value ∙ c.purge-items.ensures.items ∙ waiting_there c.args.self.now c.requires.out.0 c.args.at c.requires.out.1 c.requires.out.2)

pub returns-clause-items : goal.returns-clause-items
returns-clause-items c = λ a H none. c.purge-items.ensures.items ∙ waiting_there c.args.self.now a c.args.at H none

pub returns-clause-holds : goal.returns-clause-holds
returns-clause-holds c = λ a H none.
    retired_held c.args.self.now _ a c.args.at H none c.requires.there c.purge-items.ensures.lists
    (c.drop_for_node.ensures ∙ ap (without_node c.args.self.now.tally) (c.deref.ensures.value ∙ c.purge-items.ensures.items)) refl

pub returns-clause-numbers : goal.returns-clause-numbers
returns-clause-numbers c = λ k N.
    numbers_kept k c.args.self.now.tally c.drop_for_node.new.self c.deref.result.now N
    (items_count c.args.self.now c.requires.out.0 c.args.at c.deref.result.now c.requires.out.1
    (c.deref.ensures.value ∙ c.purge-items.ensures.items ∙ waiting_there c.args.self.now c.requires.out.0 c.args.at c.requires.out.1 c.requires.out.2))
    c.drop_for_node.ensures
