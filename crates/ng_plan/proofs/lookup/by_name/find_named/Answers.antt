-- The place of a name leads to the first entry of it.
use Rattle.std.proofs.Common.{◌<◌, length, sym, ◌∙◌, arith}
use Rattle.ng_plan.proofs.lookup.Naming.{place_within, place_found, place_missing}
use Rattle.ng_plan.proofs.lookup.by_name.find_named.Goals as goal

pub offset_bounds-entries-place : goal.offset_bounds-entries-place
offset_bounds-entries-place g c =
    let below : c.in-Some.place < length c.args.entries.now = place_within _ c.args.entries.now c.in-Some.place (sym (c.requires c.args.name.now) ∙ sym c.get.ensures ∙ c.in-Some.is) in
    omega arith

pub bounds-entries-place : goal.bounds-entries-place
bounds-entries-place g c = place_within _ c.args.entries.now c.in-Some.place (sym (c.requires c.args.name.now) ∙ sym c.get.ensures ∙ c.in-Some.is)

pub returns-in-Some : goal.returns-in-Some
returns-in-Some g c =
    place_found _ c.args.entries.now c.in-Some.place c.index-entries-place.result (sym (c.requires c.args.name.now) ∙ sym c.get.ensures ∙ c.in-Some.is) c.index-entries-place.is

pub returns-in-None : goal.returns-in-None
returns-in-None g c = place_missing _ 0 c.args.entries.now (sym (c.requires c.args.name.now) ∙ sym c.get.ensures ∙ c.in-None.is)
