-- One more link is as a new one.
use Rattle.std.proofs.Common.{◌<◌, length, arith}
use Rattle.std.proofs.lemmas.List.{get_or_default}
use Rattle.std.proofs.lemmas.List.Edits.{map_over_more}
use Rattle.ng_machine.specs.kinds.Bridge.{Link, new_link}
use Rattle.ng_switch_types.proofs.bridge.links.reset_all.Goals as goal

pub loop-link-preserved : goal.loop-link-preserved
loop-link-preserved c =
    let within : c.loop-link.link-index < length c.args.links.now = omega arith in
    let inside : c.loop-link.link-index < length c.loop-link.links = omega arith in
    rw c.reset.ensures (map_over_more (λ (x : Link). new_link x.number) c.args.links.now c.loop-link.links c.loop-link.link-index _ within c.loop-link.invariant (get_or_default _ _ _ _ inside))
