use Rattle.std.proofs.Common.{◌∙◌, sym}
use Rattle.ng_workers.proofs.Holdings.{others_stay}
use Rattle.ng_workers.proofs.driving.hold.Goals as goal

pub put-pass-requires-clause-others : goal.put-pass-requires-clause-others
put-pass-requires-clause-others g c =
    others_stay c.take-held.result.found.value c.value_mut.result.now c.lead-next.new.core 0 c.take-held.result.seat
    (c.take-held.ensures.value ∙ sym c.value_mut.ensures.value) (c.take-held.ensures.seat ∙ c.requires.seat) c.lead-next.ensures.others
