-- Each body leaves the state sound.
use Rattle.std.proofs.Common.{◌≡◌, rules, true}
use Rattle.ng_base.specs.Names.{has_name}
use Rattle.ng_machine.specs.kinds.Bridge.{bridge_message, bridge_learn}
use Rattle.ng_switch_types.proofs.bridge.Sound.{absorbed_sound, replied_sound, ticked_sound, learned_sound}
use Rattle.ng_switch_types.proofs.bridge.node.BridgeNodeNode.write.Goals as goal

pub invariant_of-self : goal.invariant_of-self
invariant_of-self c = absorbed_sound c.self.inside.hooks.names c.self.inside.bridge c.absorb.new.self c.as_slice.result.now c.self.invariant c.absorb.ensures

pub invariant_of-self-in-Msg : goal.invariant_of-self-in-Msg
invariant_of-self-in-Msg c =
    let obeyed : c.obey.new.bridge ≡ (bridge_message c.self.inside.bridge c.in-Msg.msg.header.cmd c.in-Msg.msg.args).after = search rules in
    replied_sound c.self.inside.hooks.names c.self.inside.bridge c.obey.new.bridge c.in-Msg.msg c.self.invariant obeyed

pub invariant_of-self-in-Tick : goal.invariant_of-self-in-Tick
invariant_of-self-in-Tick c = ticked_sound c.self.inside.hooks.names c.self.inside.bridge c.tick.new.self c.in-Tick.seconds c.self.invariant c.tick.ensures

pub invariant_of-self-in-Learn : goal.invariant_of-self-in-Learn
invariant_of-self-in-Learn c =
    let learned : c.learn.new.self ≡ bridge_learn c.self.inside.bridge c.in-Learn.hook c.in-Learn.addr = search rules in
    let there : has_name c.self.inside.hooks.names c.in-Learn.hook ≡ true = search rules in
    learned_sound c.self.inside.hooks.names c.self.inside.bridge c.learn.new.self c.in-Learn.hook c.in-Learn.link c.in-Learn.addr there c.self.invariant learned
