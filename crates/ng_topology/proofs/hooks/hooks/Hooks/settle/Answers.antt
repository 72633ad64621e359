-- What is at the place of a name, and in the index under it.
use Rattle.std.proofs.Common.{◌≡◌, ◌<◌, ◌∙◌, length, get_or, sym, ap, set, refl, arith, Some, None}
use Rattle.std.proofs.lemmas.List.{length-set}
use Rattle.std.specs.List.{position_from}
use Rattle.ng_machine.specs.World.{is_named, settle_hook}
use Rattle.ng_topology.proofs.hooks.HookLemmas.{found_inside, consistent_change, none_change, change_at_place, indexed_at}
use Rattle.ng_topology.specs.hooks.Hooks.{weight}
use Rattle.ng_topology.proofs.hooks.JoinedLemmas.{few_joined, light, one_changed}
use Rattle.ng_topology.proofs.hooks.hooks.Hooks.settle.Goals as goal

pub index-requires : goal.index-requires
index-requires c =
    let at : position_from (is_named c.args.name.now) 0 c.self.inside.items.items ≡ Some c.in-Some.place = rw (← c.self.view_is) at (sym c.place.ensures ∙ c.in-Some.is) in
    let below : c.in-Some.place < length c.self.inside.items.items = found_inside c.args.name.now c.self.inside.items.items c.in-Some.place at in
    omega arith

pub index-requires-in-Some : goal.index-requires-in-Some
index-requires-in-Some c =
    let at : position_from (is_named c.args.name.now) 0 c.self.inside.items.items ≡ Some c.in-Some.place = rw (← c.self.view_is) at (sym c.place.ensures ∙ c.in-Some.is) in
    let below : c.in-Some.place < length c.self.inside.items.items = found_inside c.args.name.now c.self.inside.items.items c.in-Some.place at in
    omega arith

pub overflow_sub-self : goal.overflow_sub-self
overflow_sub-self c = let few = light c.index-in-Some.result.now in let w = c.weight.ensures in omega arith

-- the number of hooks fits its type, and no more are joined
pub overflow_add-self : goal.overflow_add-self
overflow_add-self c =
    let at : position_from (is_named c.args.name.now) 0 c.self.inside.items.items ≡ Some c.in-Some.place = rw (← c.self.view_is) at (sym c.place.ensures ∙ c.in-Some.is) in
    let hooks = c.self.inside.items.items in
    let d = c.index-in-Some.result.now in
    let more = one_changed hooks c.in-Some.place d c.settle_hook-now.result (found_inside c.args.name.now hooks c.in-Some.place at) in
    let same : weight d ≡ weight (get_or hooks c.in-Some.place d) = ap weight c.index-in-Some.ensures in
    let one : weight c.settle_hook-now.result ≡ 1 = ap weight c.settle_hook-now.ensures in
    let few = few_joined (set hooks c.in-Some.place c.settle_hook-now.result) in
    let long = length-set hooks c.in-Some.place c.settle_hook-now.result in
    let len = c.len-few.ensures in
    let w = c.weight.ensures in
    let n = c.self.invariant.counted in
    omega arith

pub index_mut-requires : goal.index_mut-requires
index_mut-requires c =
    let at : position_from (is_named c.args.name.now) 0 c.self.inside.items.items ≡ Some c.in-Some.place = rw (← c.self.view_is) at (sym c.place.ensures ∙ c.in-Some.is) in
    let below : c.in-Some.place < length c.self.inside.items.items = found_inside c.args.name.now c.self.inside.items.items c.in-Some.place at in
    omega arith

pub replace_in-requires : goal.replace_in-requires
replace_in-requires c =
    let at : position_from (is_named c.args.name.now) 0 c.self.inside.items.items ≡ Some c.in-Some.place = rw (← c.self.view_is) at (sym c.place.ensures ∙ c.in-Some.is) in
    indexed_at c.args.name.now c.self.inside.items.items c.in-Some.place c.self.inside.index c.self.invariant.consistent at (found_inside c.args.name.now c.self.inside.items.items c.in-Some.place at)

pub invariant_of-self : goal.invariant_of-self
invariant_of-self c =
    let at : position_from (is_named c.args.name.now) 0 c.self.inside.items.items ≡ Some c.in-Some.place = rw (← c.self.view_is) at (sym c.place.ensures ∙ c.in-Some.is) in
    let hooks = c.self.inside.items.items in
    let d = c.index-in-Some.result.now in
    let more = one_changed hooks c.in-Some.place d c.settle_hook-now.result (found_inside c.args.name.now hooks c.in-Some.place at) in
    let same : weight d ≡ weight (get_or hooks c.in-Some.place d) = ap weight c.index-in-Some.ensures in
    let one : weight c.settle_hook-now.result ≡ 1 = ap weight c.settle_hook-now.ensures in
    let few = light d in
    record {
      consistent = consistent_change c.args.name.now settle_hook c.self.inside.items.items c.in-Some.place c.index.result.now c.settle_hook-now.result c.self.inside.index c.replace_in.new.index (λ h. refl) c.self.invariant.consistent at (c.settle_hook-now.ensures ∙ ap settle_hook c.index.ensures) c.replace_in.ensures;
      counted = let w = c.weight.ensures in let n = c.self.invariant.counted in omega arith;
    }

pub returns-in-Some : goal.returns-in-Some
returns-in-Some c =
    let at : position_from (is_named c.args.name.now) 0 c.self.inside.items.items ≡ Some c.in-Some.place = rw (← c.self.view_is) at (sym c.place.ensures ∙ c.in-Some.is) in
    rw (← c.self.view_is) (ap (set c.self.inside.items.items c.in-Some.place) (c.settle_hook-now.ensures ∙ ap settle_hook c.index.ensures) ∙ change_at_place c.args.name.now settle_hook c.self.inside.items.items c.in-Some.place c.index.result.now c.self.invariant.consistent.differ at)

pub returns-in_default : goal.returns-in_default
returns-in_default c =
    let at : position_from (is_named c.args.name.now) 0 c.self.inside.items.items ≡ None = rw (← c.self.view_is) at (sym c.place.ensures ∙ c.in_default.is) in
    rw (← c.self.view_is) (sym (none_change c.args.name.now settle_hook c.self.inside.items.items at))
