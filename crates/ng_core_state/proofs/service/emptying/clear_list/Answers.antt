use Rattle.std.proofs.Common.{◌≡◌, ◌∙◌, List, length, sym, ap, rules}
use Rattle.ng_core_state.proofs.service.Sending.{none_left}
use Rattle.ng_core_state.proofs.service.emptying.clear_list.Goals as goal

pub returns-then-is_empty : goal.returns-then-is_empty
returns-then-is_empty g c =
    let empty : length c.as_slice.result.now ≡ 0 = search rules in
    none_left c.args.list.now (ap (λ (l : List g.row.T.Denot). length l) (sym c.as_slice.ensures) ∙ empty)
