use Rattle.std.proofs.lemmas.Result.{err_from_is_err_and}
use Rattle.ngctl_print.proofs.whole.Pieces.{put_last, stopped_text}
use Rattle.ngctl_print.proofs.whole.text.print_text.Goals as goal

pub returns : goal.returns
returns g c = put_last _ _ _ _ _ _ _ _ _ c.in_ok-gather_text.ensures.counts c.in_ok-gather_text.ensures.whole c.hand_on.ensures.put

pub returns-in_err-gather_text : goal.returns-in_err-gather_text
returns-in_err-gather_text g c =
    let p = err_from_is_err_and c.from_residual.result c.from_residual.ensures.1 in
    stopped_text _ _ _ _ _ _ _ _ _ p.1 p.2 c.in_err-gather_text.ensures
