-- The hosts are older, and those that are kept stay in their order.
use Rattle.std.proofs.Common.{◌≡◌, ◌≤◌, rules, length, map, nat_lt, ◌∙◌, ap, arith}
use Rattle.std.specs.List.{filter}
use Rattle.std.specs.Prelude.{vec_capacity}
use Rattle.std.proofs.lemmas.Fn.{filter_same}
use Rattle.std.proofs.lemmas.List.{length-map}
use Rattle.ng_machine.specs.kinds.Bridge.{Host, age_host, host_way, rest_host}
use Rattle.ng_sorted.proofs.InOrder.{whole_again}
use Rattle.ng_switch_types.proofs.bridge.Addresses.{hosts_filter, hosts_map, older_keeps}
use Rattle.ng_switch_types.proofs.bridge.hosts.Hosts.grow_old.Goals as goal

kept : (c : goal.After-write_ways) → c.retain.new.self.items ≡ filter (λ (h : Host). nat_lt h.staleness c.args.limit) (map (λ (h : Host). age_host c.args.seconds (rest_host h)) c.self.inside.hosts.items)
kept c =
    let hosts = c.self.inside.hosts.items in
    let new = c.grow_all_old.new.hosts in
    let same : length new ≡ length hosts = search rules in
    let long : c.self.inside.hosts.len ≡ length hosts = search rules in
    let fresh = λ (h : Host). nat_lt h.staleness c.args.limit in
    filter_same _ _ _ (λ x b f' k. search rules) _ _ c.retain.ensures.filtered
    ∙ ap (filter fresh) (whole_again new hosts c.self.inside.hosts.len same long ∙ c.grow_all_old.ensures ∙ ap (map (λ (h : Host). age_host c.args.seconds (rest_host h))) c.deref_mut.ensures.value)

pub write_ways-requires : goal.write_ways-requires
write_ways-requires c =
    let hosts = c.self.inside.hosts.items in
    let ways = c.self.inside.ways.items in
    let same : length ways ≡ length hosts = ap length c.self.invariant.planned ∙ length-map hosts host_way in
    let long : c.self.inside.hosts.len ≡ length hosts = search rules in
    let room : length ways ≤ vec_capacity c.self.inside.ways = search rules in
    let fewer : length c.deref.result.now ≤ c.self.inside.hosts.len = omega (arith, c.deref.ensures.len, c.retain.ensures.bound) in
    omega arith

pub invariant_of-self : goal.invariant_of-self
invariant_of-self c = record {
  known = rw (kept c) (hosts_filter (λ (h : Host). nat_lt h.staleness c.args.limit) _ (hosts_map (λ (h : Host). age_host c.args.seconds (rest_host h)) c.self.inside.hosts.items (older_keeps c.args.seconds) c.self.invariant.known));
  planned = c.write_ways.ensures ∙ ap (map host_way) c.deref.ensures.value;
}

pub returns : goal.returns
returns c = rw (← c.self.view_is) (kept c)
