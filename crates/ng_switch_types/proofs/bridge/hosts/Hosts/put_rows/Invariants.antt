use Rattle.std.proofs.Common.{◌≡◌, ◌++◌, take}
use Rattle.std.specs.List.{flat_map}
use Rattle.ng_machine.specs.kinds.Bridge.{host_bytes}
use Rattle.ng_switch_types.proofs.bridge.hosts.Hosts.put_rows.Given as goal

abbrev pub invariant-loop-host : goal.invariant-loop-host
invariant-loop-host l = l.out.items ≡ l.initial.out.items ++ flat_map host_bytes (take l.host-index l.self)
