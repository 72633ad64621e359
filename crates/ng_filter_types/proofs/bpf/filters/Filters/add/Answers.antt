-- The new hook stands behind the others, and has the place behind theirs.
use Rattle.std.proofs.Common.{◌≡◌, rules, ℕ, List, [], ◌∷◌, ◌++◌, length, sym, ap, subst, ◌∙◌}
use Rattle.ng_plan.specs.lookup.NameMap.{PutsUnder}
use Rattle.ng_machine.specs.kinds.Bpf.{Filter, bpf_with_hook}
use Rattle.ng_filter_types.proofs.bpf.Places.{added, has_no_place}
use Rattle.ng_filter_types.specs.bpf.Filters.{ArePlaced}
use Rattle.ng_filter_types.proofs.bpf.filters.Filters.add.Goals as goal

pub put-requires : goal.put-requires
put-requires c = has_no_place c.self.inside.filters.items c.self.inside.places c.args.hook.now c.self.invariant (rw (← c.self.view_is) at c.requires)

pub invariant_of-self-2 : goal.invariant_of-self-2
invariant_of-self-2 c =
    let s = c.self.inside.filters.items in
    let items : c.push_reserved.new.self.items ≡ bpf_with_hook s c.args.hook.now =
    c.push_reserved.ensures.items
    ∙ ap (λ (filters : List Filter). filters ++ c.in_ok-filter.filter ∷ []) c.reserve.ensures.items
    ∙ ap (λ (f : Filter). s ++ f ∷ []) c.in_ok-filter.ensures in
    let long : c.len.result ≡ length s = c.len.ensures ∙ c.reserve.ensures.len ∙ search rules in
    let puts = subst (λ (place : ℕ). PutsUnder c.self.inside.places c.args.hook.now place c.put.new.self) long c.in_ok-put.ensures.ok in
    subst (λ (filters : List Filter). ArePlaced filters c.put.new.self) (sym items)
    (added s c.self.inside.places c.put.new.self c.args.hook.now c.self.invariant (rw (← c.self.view_is) at c.requires) puts)
