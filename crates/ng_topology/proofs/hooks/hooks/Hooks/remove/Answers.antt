-- What is at the place of a name, and in the index under it.
use Rattle.std.proofs.Common.{◌≡◌, ◌<◌, ◌∙◌, length, get_or, sym, ap, arith, Some, None}
use Rattle.std.specs.List.{position_from}
use Rattle.ng_machine.specs.World.{is_named}
use Rattle.ng_topology.proofs.hooks.HookLemmas.{found_inside, consistent_remove, removed, none_removed}
use Rattle.ng_topology.specs.hooks.Hooks.{weight}
use Rattle.ng_topology.proofs.hooks.JoinedLemmas.{one_less}
use Rattle.ng_topology.proofs.hooks.hooks.Hooks.remove.Goals as goal

pub remove-hook-requires : goal.remove-hook-requires
remove-hook-requires c =
    let at : position_from (is_named c.args.name.now) 0 c.self.inside.items.items ≡ Some c.in-Some.place = rw (← c.self.view_is) at (sym c.place.ensures ∙ c.in-Some.is) in
    let below : c.in-Some.place < length c.self.inside.items.items = found_inside c.args.name.now c.self.inside.items.items c.in-Some.place at in
    omega arith

pub overflow_sub-self : goal.overflow_sub-self
overflow_sub-self c =
    let at : position_from (is_named c.args.name.now) 0 c.self.inside.items.items ≡ Some c.in-Some.place = rw (← c.self.view_is) at (sym c.place.ensures ∙ c.in-Some.is) in
    let hooks = c.self.inside.items.items in
    let hook = c.remove-hook.result in
    let less = one_less hooks c.in-Some.place hook (found_inside c.args.name.now hooks c.in-Some.place at) in
    let same : weight hook ≡ weight (get_or hooks c.in-Some.place hook) = ap weight c.remove-hook.ensures.value in
    let w = c.weight.ensures in
    let n = c.self.invariant.counted in
    omega arith

pub invariant_of-self : goal.invariant_of-self
invariant_of-self c =
    let at : position_from (is_named c.args.name.now) 0 c.self.inside.items.items ≡ Some c.in-Some.place = rw (← c.self.view_is) at (sym c.place.ensures ∙ c.in-Some.is) in
    let hooks = c.self.inside.items.items in
    let hook = c.remove-hook.result in
    let less = one_less hooks c.in-Some.place hook (found_inside c.args.name.now hooks c.in-Some.place at) in
    let same : weight hook ≡ weight (get_or hooks c.in-Some.place hook) = ap weight c.remove-hook.ensures.value in
    rw c.remove-hook.ensures.items (record {
      consistent = consistent_remove hooks c.args.name.now c.in-Some.place c.self.inside.index c.remove_in.new.index c.self.invariant.consistent at c.remove_in.ensures;
      counted = let w = c.weight.ensures in let n = c.self.invariant.counted in omega arith;
    })

pub returns-in-Some : goal.returns-in-Some
returns-in-Some c =
    let at : position_from (is_named c.args.name.now) 0 c.self.inside.items.items ≡ Some c.in-Some.place = rw (← c.self.view_is) at (sym c.place.ensures ∙ c.in-Some.is) in
    rw (← c.self.view_is) (c.remove-hook.ensures.items ∙ removed c.args.name.now c.self.inside.items.items c.in-Some.place c.self.invariant.consistent.differ at)

pub returns-in_default : goal.returns-in_default
returns-in_default c =
    let at : position_from (is_named c.args.name.now) 0 c.self.inside.items.items ≡ None = rw (← c.self.view_is) at (sym c.place.ensures ∙ c.in_default.is) in
    rw (← c.self.view_is) (sym (none_removed c.args.name.now c.self.inside.items.items at))
