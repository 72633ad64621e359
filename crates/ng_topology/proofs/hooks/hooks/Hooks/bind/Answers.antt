-- What is at the place of a name, and in the index under it.
use Rattle.std.proofs.Common.{◌≡◌, ◌<◌, ◌∙◌, length, get_or, sym, ap, set, refl, arith, Some, None}
use Rattle.std.specs.List.{position_from}
use Rattle.ng_machine.specs.World.{is_named, bind_to}
use Rattle.ng_topology.proofs.hooks.HookLemmas.{found_inside, consistent_change, none_change, change_at_place, indexed_at}
use Rattle.ng_topology.specs.hooks.Hooks.{weight}
use Rattle.ng_topology.proofs.hooks.JoinedLemmas.{one_changed}
use Rattle.ng_topology.proofs.hooks.hooks.Hooks.bind.Goals as goal

pub index-requires : goal.index-requires
index-requires c =
    let at : position_from (is_named c.args.name.now) 0 c.self.inside.items.items ≡ Some c.in-Some.place = rw (← c.self.view_is) at (sym c.place.ensures ∙ c.in-Some.is) in
    let below : c.in-Some.place < length c.self.inside.items.items = found_inside c.args.name.now c.self.inside.items.items c.in-Some.place at in
    omega arith

pub index_mut-requires : goal.index_mut-requires
index_mut-requires c =
    let at : position_from (is_named c.args.name.now) 0 c.self.inside.items.items ≡ Some c.in-Some.place = rw (← c.self.view_is) at (sym c.place.ensures ∙ c.in-Some.is) in
    let below : c.in-Some.place < length c.self.inside.items.items = found_inside c.args.name.now c.self.inside.items.items c.in-Some.place at in
    omega arith

pub replace_in-requires : goal.replace_in-requires
replace_in-requires c =
    let at : position_from (is_named c.args.name.now) 0 c.self.inside.items.items ≡ Some c.in-Some.place = rw (← c.self.view_is) at (sym c.place.ensures ∙ c.in-Some.is) in
    indexed_at c.args.name.now c.self.inside.items.items c.in-Some.place c.self.inside.index c.self.invariant.consistent at (found_inside c.args.name.now c.self.inside.items.items c.in-Some.place at)

pub invariant_of-self : goal.invariant_of-self
invariant_of-self c =
    let at : position_from (is_named c.args.name.now) 0 c.self.inside.items.items ≡ Some c.in-Some.place = rw (← c.self.view_is) at (sym c.place.ensures ∙ c.in-Some.is) in
    let hooks = c.self.inside.items.items in
    let more = one_changed hooks c.in-Some.place c.index.result.now c.bind_to-now.result (found_inside c.args.name.now hooks c.in-Some.place at) in
    let same : weight c.index.result.now ≡ weight (get_or hooks c.in-Some.place c.index.result.now) = ap weight c.index.ensures in
    let bound : weight c.bind_to-now.result ≡ weight c.index.result.now = ap weight c.bind_to-now.ensures in
    record {
      consistent = consistent_change c.args.name.now (bind_to c.args.link c.args.peer.node c.args.peer.hook) c.self.inside.items.items c.in-Some.place c.index.result.now c.bind_to-now.result c.self.inside.index c.replace_in.new.index (λ h. refl) c.self.invariant.consistent at (c.bind_to-now.ensures ∙ ap (bind_to c.args.link c.args.peer.node c.args.peer.hook) c.index.ensures) c.replace_in.ensures;
      counted = let n = c.self.invariant.counted in omega arith;
    }

pub returns-in-Some : goal.returns-in-Some
returns-in-Some c =
    let at : position_from (is_named c.args.name.now) 0 c.self.inside.items.items ≡ Some c.in-Some.place = rw (← c.self.view_is) at (sym c.place.ensures ∙ c.in-Some.is) in
    rw (← c.self.view_is) (ap (set c.self.inside.items.items c.in-Some.place) (c.bind_to-now.ensures ∙ ap (bind_to c.args.link c.args.peer.node c.args.peer.hook) c.index.ensures) ∙ change_at_place c.args.name.now (bind_to c.args.link c.args.peer.node c.args.peer.hook) c.self.inside.items.items c.in-Some.place c.index.result.now c.self.invariant.consistent.differ at)

pub returns-in_default : goal.returns-in_default
returns-in_default c =
    let at : position_from (is_named c.args.name.now) 0 c.self.inside.items.items ≡ None = rw (← c.self.view_is) at (sym c.place.ensures ∙ c.in_default.is) in
    rw (← c.self.view_is) (sym (none_change c.args.name.now (bind_to c.args.link c.args.peer.node c.args.peer.hook) c.self.inside.items.items at))
