-- What stands at the hook is changed in its place, and each hook keeps its name.
use Rattle.std.proofs.Common.{◌≡◌, rules, length, sym, ap, ◌∙◌, arith}
use Rattle.ng_machine.specs.kinds.Bpf.{Filter}
use Rattle.ng_machine.specs.Counters.{zeros}
use Rattle.ng_filter_types.proofs.bpf.Places.{changed, changed_places, hooks_stay, unchanged, within}
use Rattle.ng_filter_types.specs.bpf.Filters.{hooks_of}
use Rattle.ng_filter_types.proofs.bpf.filters.Filters.clear.Goals as goal

pub index_mut-requires : goal.index_mut-requires
index_mut-requires c =
    let below = within c.self.inside.filters.items c.self.inside.places c.args.hook.now c.in-Some.place c.self.invariant (sym c.in-Some.is ∙ c.get.ensures) in
    let long : c.self.inside.filters.len ≡ length c.self.inside.filters.items = search rules in
    omega (arith, below, long)

pub invariant_of-self : goal.invariant_of-self
invariant_of-self c =
    changed_places c.self.inside.filters.items c.self.inside.places c.args.hook.now (λ (f : Filter). record f { counters = zeros 6 }) c.in-Some.place
    c.index_mut.result.now c.clear.new.self c.self.invariant (sym c.in-Some.is ∙ c.get.ensures) c.index_mut.ensures.value c.clear.ensures (λ f e. e)

pub returns-in-Some-clause-cleared : goal.returns-in-Some-clause-cleared
returns-in-Some-clause-cleared c =
    rw (← c.self.view_is)
    (changed c.self.inside.filters.items c.self.inside.places c.args.hook.now (λ (f : Filter). record f { counters = zeros 6 }) c.in-Some.place
    c.index_mut.result.now c.clear.new.self c.self.invariant (sym c.in-Some.is ∙ c.get.ensures) c.index_mut.ensures.value c.clear.ensures)

pub returns-in-Some-clause-hooks : goal.returns-in-Some-clause-hooks
returns-in-Some-clause-hooks c =
    rw (← c.self.view_is)
    (ap hooks_of
    (changed c.self.inside.filters.items c.self.inside.places c.args.hook.now (λ (f : Filter). record f { counters = zeros 6 }) c.in-Some.place
    c.index_mut.result.now c.clear.new.self c.self.invariant (sym c.in-Some.is ∙ c.get.ensures) c.index_mut.ensures.value c.clear.ensures)
    ∙ hooks_stay c.self.inside.filters.items c.args.hook.now (λ (f : Filter). record f { counters = zeros 6 }) (λ f e. e))

pub returns-in_default-clause-cleared : goal.returns-in_default-clause-cleared
returns-in_default-clause-cleared c =
    rw (← c.self.view_is)
    (unchanged c.self.inside.filters.items c.self.inside.places c.args.hook.now (λ (f : Filter). record f { counters = zeros 6 }) c.self.invariant
    (sym c.in_default.is ∙ c.get.ensures))
