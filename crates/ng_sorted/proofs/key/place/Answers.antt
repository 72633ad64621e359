-- What the search by number found.
use Rattle.std.proofs.Common.{rules}
use Rattle.std.proofs.lemmas.List.Sorted.{answers_always}
use Rattle.ng_sorted.proofs.InOrder.{searched}
use Rattle.ng_sorted.proofs.key.place.Goals as goal

pub returns : goal.returns
returns g c =
    let key = g.T.Key.key_of in
    let by_key = c.binary_search_by_key.ensures.position key (answers_always _ _ _ (λ f a r h called. search rules)) in
    searched key c.args.entries.now c.args.key _ c.requires c.binary_search_by_key.ensures.bound by_key
