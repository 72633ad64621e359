use Rattle.std.proofs.Common.{◌∙◌, ap}
use Rattle.ng_queue.specs.declared.tally.tally.Tally.{Tally}
use Rattle.ng_queue.specs.tally.Feeding.{count_refusal}
use Rattle.ng_queue.proofs.tally.Refusals.{counts_refuse}
use Rattle.ng_queue.proofs.pending.pending.Pending.refusal.Goals as goal

pub returns : goal.returns
returns c = λ a H tags.
    c.refusal.ensures ∙ ap (λ (t : Tally). count_refusal c.args.budget t c.args.input.now) H.tally ∙ counts_refuse c.args.budget a.world c.args.input.now tags
