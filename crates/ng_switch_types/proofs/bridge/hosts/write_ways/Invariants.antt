use Rattle.std.proofs.Common.{◌≡◌, ◌≤◌, length, map, take}
use Rattle.std.specs.Prelude.{vec_capacity}
use Rattle.ng_machine.specs.kinds.Bridge.{host_way}
use Rattle.ng_switch_types.proofs.bridge.hosts.write_ways.Given as goal

abbrev pub invariant-loop-host : goal.invariant-loop-host
invariant-loop-host l = (l.ways.items ≡ map host_way (take l.host-index l.hosts)) × (length l.hosts ≤ vec_capacity l.ways)
