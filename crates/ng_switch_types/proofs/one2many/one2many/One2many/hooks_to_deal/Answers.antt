-- The least active link, where the algorithm is neither of the others.
use Rattle.std.proofs.Common.{◌≡◌, ℕ, ◌==◌, false, List, map, IfOk, subst, rules, tests}
use Rattle.ng_machine.specs.kinds.One2many.{active_links, many}
use Rattle.ng_switch_types.specs.one2many.Node.{names_of}
use Rattle.ng_switch_types.proofs.one2many.Links.{dealt_least}
use Rattle.ng_switch_types.proofs.one2many.one2many.One2many.hooks_to_deal.Goals as goal

pub returns-in_default : goal.returns-in_default
returns-in_default c =
    let s = c.args.self.now in
    let not_in_turn : (s.algorithm == 1) ≡ false = search (rules, tests) in
    let not_to_all : (s.algorithm == 2) ≡ false = search (rules, tests) in
    subst (λ (dealt : List ℕ). IfOk c.hook_of-in_default.result (λ hooks. hooks.items ≡ map many dealt))
    (dealt_least s (active_links s (names_of s.rows)) c.least.result not_in_turn not_to_all c.least.ensures.value) c.hook_of-in_default.ensures
