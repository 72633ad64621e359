-- A new hook brings a link whose number no link has, and leaves the state sound.
use Rattle.std.proofs.Common.{◌≡◌, ◌++◌, ◌∷◌, [], List, ℕ, false, ap, ◌∙◌}
use Rattle.ng_base.specs.Names.{has_name}
use Rattle.ng_switch_types.specs.bridge.Node.{BridgeParts, bridge_state}
use Rattle.ng_switch_types.proofs.bridge.Sound.{accepted, number_is_fresh, made_sound, undone}
use Rattle.ng_switch_types.proofs.bridge.node.BridgeNodeNode.newhook.Goals as goal

pub add_link-requires : goal.add_link-requires
add_link-requires c =
    let fresh : has_name c.self.inside.hooks.names c.args.hook.now ≡ false = rw (← c.self.view_is) at c.requires.fresh in
    number_is_fresh c.self.inside.hooks.names c.self.inside.bridge c.args.hook.now c.self.invariant (accepted c.args.hook.now c.requires.allowed) fresh

pub invariant_of-self-2 : goal.invariant_of-self-2
invariant_of-self-2 c =
    let hooks = c.self.inside.hooks.names in
    let hook = c.args.hook.now in
    let names : c.add.new.self.names ≡ hooks ++ hook ∷ [] = c.add.ensures.added ∙ ap (λ (xs : List (List ℕ)). xs ++ hook ∷ []) c.in_ok-reserve.ensures.same in
    made_sound hooks c.add.new.self.names c.self.inside.bridge c.add_link.new.self hook c.self.invariant (accepted hook c.requires.allowed) names c.in_ok-add_link.ensures.ok

pub returns-clause-undone : goal.returns-clause-undone
returns-clause-undone c =
    let hooks = c.self.inside.hooks.names in
    let hook = c.args.hook.now in
    let fresh : has_name hooks hook ≡ false = rw (← c.self.view_is) at c.requires.fresh in
    let names : c.add.new.self.names ≡ hooks ++ hook ∷ [] = c.add.ensures.added ∙ ap (λ (xs : List (List ℕ)). xs ++ hook ∷ []) c.in_ok-reserve.ensures.same in
    undone hooks c.add.new.self.names c.self.inside.bridge c.add_link.new.self hook c.self.invariant (accepted hook c.requires.allowed) fresh names c.in_ok-add_link.ensures.ok
    ∙ ap (λ (parts : BridgeParts). bridge_state parts) c.self.view_is
