-- What the search by ethertype found.
use Rattle.std.proofs.Common.{rules, Ok, Err, ap, is_some}
use Rattle.std.proofs.lemmas.List.Sorted.{answers_always}
use Rattle.ng_sorted.proofs.InOrder.{find_gap, searched}
use Rattle.ng_filter_types.specs.Filters.{number_of}
use Rattle.ng_filter_types.proofs.Found.{found_some}
use Rattle.ng_filter_types.proofs.filters.free_place.Goals as goal

pub returns-in-Ok : goal.returns-in-Ok
returns-in-Ok c =
    let filters = c.args.filters.now in
    let k = c.in-Ok.field-0 in
    let by_key = c.in-Ok.ensures.position number_of (answers_always _ _ _ (λ f a r h called. search rules)) in
    found_some number_of filters c.args.ethertype k (searched number_of filters c.args.ethertype (Ok k) c.requires c.in-Ok.ensures.bound by_key).found

pub returns-in-Err : goal.returns-in-Err
returns-in-Err c =
    let filters = c.args.filters.now in
    let k = c.in-Err.place in
    let by_key = c.in-Err.ensures.position number_of (answers_always _ _ _ (λ f a r h called. search rules)) in
    let gap = (searched number_of filters c.args.ethertype (Err k) c.requires c.in-Err.ensures.bound by_key).missing in
    record { none = ap is_some (find_gap number_of filters c.args.ethertype k gap); gap = gap }
