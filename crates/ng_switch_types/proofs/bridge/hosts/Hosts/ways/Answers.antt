-- What a plan holds of the hosts is in order of their addresses.
use Rattle.std.proofs.Common.{◌∙◌}
use Rattle.ng_switch_types.proofs.bridge.Addresses.{ways_ascend}
use Rattle.ng_switch_types.proofs.bridge.hosts.Hosts.ways.Goals as goal

pub ascending-requires : goal.ascending-requires
ascending-requires c =
    ways_ascend c.self.inside.hosts.items c.from_vec.result c.self.invariant.known.ordered (c.from_vec.ensures ∙ c.in_ok-ways.ensures.items ∙ c.deref.ensures.value ∙ c.self.invariant.planned)
