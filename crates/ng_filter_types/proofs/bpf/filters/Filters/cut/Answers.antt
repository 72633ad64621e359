-- The hook goes from its place, and the places behind it go one down.
use Rattle.std.proofs.Common.{◌≡◌, rules, List, length, sym, subst, ◌∙◌, arith}
use Rattle.ng_machine.specs.kinds.Bpf.{Filter}
use Rattle.ng_filter_types.proofs.bpf.Places.{cut, kept, removed, within}
use Rattle.ng_filter_types.specs.bpf.Filters.{ArePlaced}
use Rattle.ng_filter_types.proofs.bpf.filters.Filters.cut.Goals as goal

pub remove-filter-requires : goal.remove-filter-requires
remove-filter-requires c =
    let below = within c.self.inside.filters.items c.self.inside.places c.args.hook.now c.in-Some.place c.self.invariant (sym c.in-Some.is ∙ c.get.ensures) in
    let long : c.self.inside.filters.len ≡ length c.self.inside.filters.items = search rules in
    omega (arith, below, long)

pub invariant_of-self : goal.invariant_of-self
invariant_of-self c =
    subst (λ (filters : List Filter). ArePlaced filters c.cut.new.self) (sym c.remove-filter.ensures.items)
    (cut c.self.inside.filters.items c.self.inside.places c.cut.new.self c.args.hook.now c.in-Some.place c.self.invariant
    (sym c.in-Some.is ∙ c.get.ensures) c.cut.ensures)

pub returns-in-Some : goal.returns-in-Some
returns-in-Some c =
    rw (← c.self.view_is)
    (c.remove-filter.ensures.items
    ∙ removed c.self.inside.filters.items c.self.inside.places c.args.hook.now c.in-Some.place c.self.invariant (sym c.in-Some.is ∙ c.get.ensures))

pub returns-in_default : goal.returns-in_default
returns-in_default c =
    rw (← c.self.view_is) (kept c.self.inside.filters.items c.self.inside.places c.args.hook.now c.self.invariant (sym c.in_default.is ∙ c.get.ensures))
