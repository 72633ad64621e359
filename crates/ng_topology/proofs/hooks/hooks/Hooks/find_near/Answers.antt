-- The hook at the place that was looked at is the hook of the name.
use Rattle.std.proofs.Common.{◌≡◌, ◌<◌, ◌+◌, ◌∙◌, Some, length, refl, sym, ap, arith}
use Rattle.std.specs.List.{position_from}
use Rattle.ng_machine.specs.World.{is_named}
use Rattle.ng_topology.proofs.hooks.HookLemmas.{found, found_inside}
use Rattle.ng_topology.proofs.hooks.hooks.Hooks.find_near.Goals as goal

pub index-requires : goal.index-requires
index-requires c =
    let at : position_from (is_named c.args.name.now) 0 c.self.inside.items.items ≡ Some c.args.near = rw (← c.self.view_is) at (c.if-is_at.ensures refl) in
    let below : c.args.near < length c.self.inside.items.items = found_inside c.args.name.now c.self.inside.items.items c.args.near at in
    omega arith

pub returns-then-is_at : goal.returns-then-is_at
returns-then-is_at c =
    let at : position_from (is_named c.args.name.now) 0 c.self.inside.items.items ≡ Some c.args.near = rw (← c.self.view_is) at (c.if-is_at.ensures refl) in
    rw (← c.self.view_is) (ap Some c.index.ensures ∙ sym (found c.args.name.now c.self.inside.items.items c.args.near c.index.result.now at))

pub index-requires-then-is_at-2 : goal.index-requires-then-is_at-2
index-requires-then-is_at-2 c =
    let at : position_from (is_named c.args.name.now) 0 c.self.inside.items.items ≡ Some (c.args.near + 1) = rw (← c.self.view_is) at (c.if-is_at-2.ensures refl) in
    let below : c.args.near + 1 < length c.self.inside.items.items = found_inside c.args.name.now c.self.inside.items.items (c.args.near + 1) at in
    omega arith

pub returns-then-is_at-2 : goal.returns-then-is_at-2
returns-then-is_at-2 c =
    let at : position_from (is_named c.args.name.now) 0 c.self.inside.items.items ≡ Some (c.args.near + 1) = rw (← c.self.view_is) at (c.if-is_at-2.ensures refl) in
    rw (← c.self.view_is) (ap Some c.index-then-is_at-2.ensures ∙ sym (found c.args.name.now c.self.inside.items.items (c.args.near + 1) c.index-then-is_at-2.result.now at))
