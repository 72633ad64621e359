use Rattle.std.proofs.Common.{◌≡◌, map, take, drop, ◌++◌}
use Rattle.ng_machine.specs.kinds.Bridge.{new_link}
use Rattle.ng_switch_types.proofs.bridge.links.reset_all.Given as goal

abbrev pub invariant-loop-link : goal.invariant-loop-link
invariant-loop-link l = l.links ≡ map (λ x. new_link x.number) (take l.link-index l.initial.links) ++ drop l.link-index l.initial.links
