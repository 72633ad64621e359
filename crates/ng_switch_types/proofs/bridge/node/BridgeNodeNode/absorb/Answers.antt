-- What is counted leaves the state sound.
use Rattle.ng_switch_types.proofs.bridge.Sound.{absorbed_sound}
use Rattle.ng_switch_types.proofs.bridge.node.BridgeNodeNode.absorb.Goals as goal

pub invariant_of-self : goal.invariant_of-self
invariant_of-self c = absorbed_sound c.self.inside.hooks.names c.self.inside.bridge c.absorb.new.self c.as_slice.result.now c.self.invariant c.absorb.ensures
