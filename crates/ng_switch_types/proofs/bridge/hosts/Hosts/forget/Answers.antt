-- The hosts that are kept are those behind other links, in their order.
use Rattle.std.proofs.Common.{◌≡◌, ◌==◌, ◌∙◌, ap, rules, not, filter, List}
use Rattle.std.proofs.lemmas.Fn.{filter_same}
use Rattle.ng_machine.specs.declared.plan.BridgeHost.{BridgeHost}
use Rattle.ng_machine.specs.kinds.Bridge.{Host, elsewhere, is_behind}
use Rattle.ng_switch_types.proofs.bridge.Addresses.{hosts_filter, ways_elsewhere}
use Rattle.ng_switch_types.proofs.bridge.hosts.Hosts.forget.Goals as goal

kept : (c : goal.After-retain-2) → c.retain.new.self.items ≡ elsewhere c.args.link c.self.inside.hosts.items
kept c = filter_same _ _ _ (λ x b f' k. search rules) _ _ c.retain.ensures.filtered

ways_kept : (c : goal.After-retain-2) → c.retain-2.new.self.items ≡ filter (λ (w : BridgeHost). not (w.link == c.args.link)) c.self.inside.ways.items
ways_kept c = filter_same _ _ _ (λ x b f' k. search rules) _ _ c.retain-2.ensures.filtered

pub invariant_of-self : goal.invariant_of-self
invariant_of-self c =
    let hosts = c.self.inside.hosts.items in
    rw (kept c) (record {
      known = hosts_filter (λ (h : Host). not (is_behind c.args.link h)) hosts c.self.invariant.known;
      planned = ways_kept c ∙ ap (λ (ways : List BridgeHost). filter (λ (w : BridgeHost). not (w.link == c.args.link)) ways) c.self.invariant.planned ∙ ways_elsewhere c.args.link hosts;
    })

pub returns : goal.returns
returns c = rw (← c.self.view_is) (kept c)
