-- What the search by number found.
use Rattle.std.proofs.Common.{rules, sym, ◌∙◌}
use Rattle.std.proofs.lemmas.List.Sorted.{answers_always}
use Rattle.ng_plan.proofs.lookup.Searching.{searched_at, searched_gap, get_at}
use Rattle.ng_plan.proofs.lookup.table.search.Goals as goal

pub returns-in-Ok : goal.returns-in-Ok
returns-in-Ok g c =
    let key = g.T.Key.key_of in
    let by_key = c.in-Ok.ensures.position key (answers_always _ _ _ (λ f a r h called. search rules)) in
    sym (searched_at key c.args.entries.now c.args.key c.in-Ok.place c.requires c.in-Ok.ensures.bound by_key
    ∙ get_at c.args.entries.now c.in-Ok.place c.index-entries-place.result c.in-Ok.ensures.bound c.index-entries-place.is)

pub returns-in-Err : goal.returns-in-Err
returns-in-Err g c =
    let key = g.T.Key.key_of in
    let by_key = c.in-Err.ensures.position key (answers_always _ _ _ (λ f a r h called. search rules)) in
    sym (searched_gap key c.args.entries.now c.args.key c.in-Err.field-0 c.requires c.in-Err.ensures.bound by_key)
