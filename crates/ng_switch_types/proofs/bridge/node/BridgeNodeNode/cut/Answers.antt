-- A cut leaves the state sound.
use Rattle.ng_switch_types.proofs.bridge.Sound.{cut_sound}
use Rattle.ng_switch_types.proofs.bridge.node.BridgeNodeNode.cut.Goals as goal

pub invariant_of-self : goal.invariant_of-self
invariant_of-self c = cut_sound c.self.inside.hooks.names c.cut.new.self.names c.self.inside.bridge c.cut_link.new.self c.args.hook.now c.self.invariant c.cut.ensures c.cut_link.ensures
