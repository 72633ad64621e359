-- All links were looked at.
use Rattle.std.proofs.Common.{◌≡◌, ℕ, map, filter, ap, ◌∙◌, arith}
use Rattle.ng_machine.specs.kinds.One2many.{is_active, many}
use Rattle.ng_machine.specs.Words.{below}
use Rattle.ng_switch_types.specs.one2many.Node.{names_of}
use Rattle.ng_switch_types.proofs.one2many.one2many.One2many.active_hooks.Goals as goal

pub returns : goal.returns
returns c =
    let all : c.loop-link.link ≡ 64 = omega arith in
    c.loop-link.invariant ∙ ap (λ (n : ℕ). map many (filter (is_active c.args.self.now (names_of c.args.self.now.rows)) (below n))) all
