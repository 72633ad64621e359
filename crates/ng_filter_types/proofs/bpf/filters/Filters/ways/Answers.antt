-- A copy of the places leads to the hooks of the ways, as the places lead to the hooks.
use Rattle.std.proofs.Common.{map, ap, ◌∙◌}
use Rattle.ng_machine.specs.kinds.Bpf.{Filter}
use Rattle.ng_filter_types.proofs.bpf.Places.{ways_placed}
use Rattle.ng_filter_types.proofs.bpf.filters.Filters.ways.Goals as goal

pub with_places-requires : goal.with_places-requires
with_places-requires c =
    ways_placed c.self.inside.filters.items c.self.inside.places c.in_ok-places.places _ c.self.invariant c.in_ok-places.ensures
    (c.from_vec.ensures ∙ c.in_ok-ways.ensures ∙ ap (map (λ (f : Filter). f.way)) c.deref.ensures.value)
