-- The hooks stay.
use Rattle.std.proofs.Common.{ap, ◌∙◌}
use Rattle.ng_machine.specs.kinds.One2many.{One2many}
use Rattle.ng_switch_types.specs.one2many.Node.{names_of}
use Rattle.ng_switch_types.proofs.one2many.RowLists.{names_at}
use Rattle.ng_switch_types.proofs.one2many.messages.clear_stats.Goals as goal

pub returns-in-Ok-clause-hooks : goal.returns-in-Ok-clause-hooks
returns-in-Ok-clause-hooks c = ap (λ (s : One2many). names_of s.rows) c.clear.ensures ∙ names_at _ _ c.args.one2many.now.rows
