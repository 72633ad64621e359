use Rattle.std.proofs.Common.{◌≡◌, map, take, drop, ◌++◌}
use Rattle.ng_machine.specs.kinds.Bridge.{age_host, rest_host}
use Rattle.ng_switch_types.proofs.bridge.hosts.grow_all_old.Given as goal

abbrev pub invariant-loop-host : goal.invariant-loop-host
invariant-loop-host l = l.hosts ≡ map (λ h. age_host l.seconds (rest_host h)) (take l.host-index l.initial.hosts) ++ drop l.host-index l.initial.hosts
