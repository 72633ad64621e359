-- What stands at the hook is changed in its place, and each hook keeps its name.
use Rattle.std.proofs.Common.{◌≡◌, rules, length, refl, sym, ap, ◌∙◌, arith}
use Rattle.ng_machine.specs.kinds.Bpf.{Filter}
use Rattle.ng_filter_types.proofs.bpf.Places.{changed, changed_places, hooks_stay, unchanged, within}
use Rattle.ng_filter_types.specs.bpf.Filters.{hooks_of}
use Rattle.ng_filter_types.proofs.bpf.filters.Filters.set_way.Goals as goal

pub index_mut-requires : goal.index_mut-requires
index_mut-requires c =
    let below = within c.self.inside.filters.items c.self.inside.places c.args.way.hook c.in-Some.place c.self.invariant (sym c.in-Some.is ∙ c.get.ensures) in
    let long : c.self.inside.filters.len ≡ length c.self.inside.filters.items = search rules in
    omega (arith, below, long)

pub invariant_of-self : goal.invariant_of-self
invariant_of-self c =
    changed_places c.self.inside.filters.items c.self.inside.places c.args.way.hook (λ (f : Filter). record f { way = c.args.way }) c.in-Some.place
    c.index_mut.result.now c.set_way.new.self c.self.invariant (sym c.in-Some.is ∙ c.get.ensures) c.index_mut.ensures.value c.set_way.ensures (λ f e. refl)

pub returns-in-Some-clause-set : goal.returns-in-Some-clause-set
returns-in-Some-clause-set c =
    rw (← c.self.view_is)
    (changed c.self.inside.filters.items c.self.inside.places c.args.way.hook (λ (f : Filter). record f { way = c.args.way }) c.in-Some.place
    c.index_mut.result.now c.set_way.new.self c.self.invariant (sym c.in-Some.is ∙ c.get.ensures) c.index_mut.ensures.value c.set_way.ensures)

pub returns-in-Some-clause-hooks : goal.returns-in-Some-clause-hooks
returns-in-Some-clause-hooks c =
    rw (← c.self.view_is)
    (ap hooks_of
    (changed c.self.inside.filters.items c.self.inside.places c.args.way.hook (λ (f : Filter). record f { way = c.args.way }) c.in-Some.place
    c.index_mut.result.now c.set_way.new.self c.self.invariant (sym c.in-Some.is ∙ c.get.ensures) c.index_mut.ensures.value c.set_way.ensures)
    ∙ hooks_stay c.self.inside.filters.items c.args.way.hook (λ (f : Filter). record f { way = c.args.way }) (λ f e. refl))

pub returns-in_default-clause-set : goal.returns-in_default-clause-set
returns-in_default-clause-set c =
    rw (← c.self.view_is)
    (unchanged c.self.inside.filters.items c.self.inside.places c.args.way.hook (λ (f : Filter). record f { way = c.args.way }) c.self.invariant
    (sym c.in_default.is ∙ c.get.ensures))
