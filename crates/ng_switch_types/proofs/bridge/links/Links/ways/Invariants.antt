use Rattle.std.proofs.Common.{◌≡◌, map, take}
use Rattle.ng_machine.specs.kinds.Bridge.{link_way}
use Rattle.ng_switch_types.proofs.bridge.links.Links.ways.Given as goal

abbrev pub invariant-loop-link : goal.invariant-loop-link
invariant-loop-link l = l.ways ≡ map link_way (take l.link-index l.self)
