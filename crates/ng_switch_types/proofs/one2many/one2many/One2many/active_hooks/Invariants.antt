use Rattle.std.proofs.Common.{◌≡◌, filter, map}
use Rattle.ng_machine.specs.kinds.One2many.{is_active, many}
use Rattle.ng_machine.specs.Words.{below}
use Rattle.ng_switch_types.specs.one2many.Node.{names_of}
use Rattle.ng_switch_types.proofs.one2many.one2many.One2many.active_hooks.Given as goal

abbrev pub invariant-loop-link : goal.invariant-loop-link
invariant-loop-link l = l.hooks.items ≡ map many (filter (is_active l.self (names_of l.self.rows)) (below l.link))
