-- The links that are kept are those of other numbers, in their order.
use Rattle.std.proofs.Common.{◌≡◌, rules, not}
use Rattle.std.specs.List.{filter}
use Rattle.std.proofs.lemmas.Fn.{filter_same}
use Rattle.ng_machine.specs.kinds.Bridge.{Link, has_number}
use Rattle.ng_sorted.proofs.InOrder.{ordered_filter}
use Rattle.ng_switch_types.proofs.bridge.LinkLists.{number_of}
use Rattle.ng_switch_types.proofs.bridge.links.Links.cut.Goals as goal

kept : (c : goal.After-retain) → c.retain.new.self.items ≡ filter (λ (l : Link). not (has_number c.args.number l)) c.self.inside.links.items
kept c = filter_same _ _ _ (λ x b f' k. search rules) _ _ c.retain.ensures.filtered

pub invariant_of-self : goal.invariant_of-self
invariant_of-self c = rw (kept c) (ordered_filter number_of (λ (l : Link). not (has_number c.args.number l)) c.self.inside.links.items c.self.invariant)

pub returns : goal.returns
returns c = rw (← c.self.view_is) (kept c)
