use Rattle.std.proofs.Common.{◌∙◌, sym, ap, subst}
use Rattle.ng_queue.specs.declared.tally.tally.Tally.{Tally}
use Rattle.ng_queue.specs.tally.Tally.{Counts, without_hook}
use Rattle.ng_queue.proofs.pending.HeldItems.{item_counts, dropped_held}
use Rattle.ng_queue.proofs.pending.pending.Pending.drop_for_hook.Goals as goal

pub drop_for_hook-requires-clause-counted : goal.drop_for_hook-requires-clause-counted
drop_for_hook-requires-clause-counted c =
    subst (λ (t : Tally). Counts t c.args.item.now) (sym c.forget.ensures.tally) (item_counts c.args.self.now c.requires.out.0 c.args.item.now c.requires.out.1 c.requires.out.2)

pub returns-clause-holds : goal.returns-clause-holds
returns-clause-holds c = λ a H o.
    dropped_held c.args.self.now _ a c.args.item.now H o c.forget.ensures.after (c.drop_for_hook.ensures ∙ ap (λ (t : Tally). without_hook t c.args.item.now) c.forget.ensures.tally) c.forget.ensures.out
