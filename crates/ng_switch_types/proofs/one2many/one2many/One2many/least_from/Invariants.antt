use Rattle.std.proofs.Common.{◌≡◌, None, nat_le}
use Rattle.ng_machine.specs.kinds.One2many.{is_active}
use Rattle.ng_switch_types.specs.one2many.Node.{names_of}
use Rattle.ng_switch_types.proofs.one2many.Links.{first_of}
use Rattle.ng_switch_types.proofs.one2many.one2many.One2many.least_from.Given as goal

abbrev pub invariant-loop-link : goal.invariant-loop-link
invariant-loop-link l = first_of (nat_le l.number) (is_active l.self (names_of l.self.rows)) l.link ≡ None
