-- The rows of the table that change something.
use Rattle.std.proofs.Common.{ℕ, Bool, List, if◌then◌else◌, sym, ap, ◌∙◌}
use Rattle.ng_machine.specs.Counters.{row_bytes}
use Rattle.ng_machine.specs.kinds.One2many.{One2many, with_config}
use Rattle.ng_machine.specs.Outcome.{Reply, answers, invalid, nothing, sets}
use Rattle.ng_switch_types.proofs.one2many.messages.obey.Goals as goal

pub set_config-requires : goal.set_config-requires
set_config-requires c = c.is_config.ensures.long c.if-is_config.true

pub returns-then-is_config-clause-after : goal.returns-then-is_config-clause-after
returns-then-is_config-clause-after c =
    let s = c.args.one2many.now in
    rw c.in-1.is (c.set_config.ensures ∙ sym (ap (λ (reply : Reply One2many). reply.after) (c.is_config.ensures.taken s ∙ ap (λ (b : Bool). if b then sets (with_config s c.args.args.now) else invalid s) c.if-is_config.true)))

pub returns-else-is_config-clause-after : goal.returns-else-is_config-clause-after
returns-else-is_config-clause-after c =
    let s = c.args.one2many.now in
    rw c.in-1.is (sym (ap (λ (reply : Reply One2many). reply.after) (c.is_config.ensures.taken s ∙ ap (λ (b : Bool). if b then sets (with_config s c.args.args.now) else invalid s) c.if-is_config.false)))

pub returns-in-4-clause-after : goal.returns-in-4-clause-after
returns-in-4-clause-after c = rw c.in-4.is (c.clear_stats.ensures.after (λ (row : List ℕ). nothing))

pub returns-in-536870917-clause-after : goal.returns-in-536870917-clause-after
returns-in-536870917-clause-after c = rw c.in-536870917.is (c.clear_stats-in-536870917.ensures.after (λ (row : List ℕ). (answers c.args.one2many.now (row_bytes row)).outcome))
