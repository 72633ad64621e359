-- One more host is older.
use Rattle.std.proofs.Common.{◌<◌, length, arith}
use Rattle.std.proofs.lemmas.List.{get_or_default}
use Rattle.std.proofs.lemmas.List.Edits.{map_over_more}
use Rattle.ng_machine.specs.kinds.Bridge.{age_host, rest_host}
use Rattle.ng_switch_types.proofs.bridge.hosts.grow_all_old.Goals as goal

pub loop-host-preserved : goal.loop-host-preserved
loop-host-preserved c =
    let within : c.loop-host.host-index < length c.args.hosts.now = omega arith in
    let inside : c.loop-host.host-index < length c.loop-host.hosts = omega arith in
    rw c.grow_old.ensures (map_over_more (λ h. age_host c.args.seconds (rest_host h)) c.args.hosts.now c.loop-host.hosts c.loop-host.host-index _ within c.loop-host.invariant (get_or_default _ _ _ _ inside))
