-- The first link that passes, or none does.
use Rattle.std.proofs.Common.{◌≡◌, ◌<◌, sym, ap, ◌∙◌, nat_le, arith}
use Rattle.ng_machine.specs.kinds.One2many.{is_active}
use Rattle.ng_switch_types.specs.one2many.Node.{names_of}
use Rattle.ng_switch_types.proofs.one2many.Links.{first_of, none_more, first_found}
use Rattle.ng_switch_types.proofs.one2many.one2many.One2many.least_from.Goals as goal

pub returns-then-is_active_from-clause-value : goal.returns-then-is_active_from-clause-value
returns-then-is_active_from-clause-value c =
    let within : c.loop-link.link < 64 = omega arith in
    sym (first_found (nat_le c.args.number) (is_active c.args.self.now (names_of c.args.self.now.rows)) c.loop-link.link 64 c.loop-link.invariant (sym c.is_active_from.ensures ∙ c.if-is_active_from.true) within)

pub loop-link-preserved : goal.loop-link-preserved
loop-link-preserved c =
    none_more (nat_le c.args.number) (is_active c.args.self.now (names_of c.args.self.now.rows)) c.loop-link.link c.loop-link.invariant (sym c.is_active_from.ensures ∙ c.if-is_active_from.false)

pub returns-clause-value : goal.returns-clause-value
returns-clause-value c =
    let all : 64 ≡ c.loop-link.link = omega arith in
    sym (ap (first_of (nat_le c.args.number) (is_active c.args.self.now (names_of c.args.self.now.rows))) all ∙ c.loop-link.invariant)
