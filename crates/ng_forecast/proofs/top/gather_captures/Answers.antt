use Rattle.std.proofs.Common.{◌≡◌, ◌∙◌, length, ap, sym}
use Rattle.ng_core.specs.StillWorld.{StillWorld}
use Rattle.ng_forecast.proofs.Coming.{come_within}
use Rattle.ng_forecast.proofs.top.gather_captures.Goals as goal

pub gather-requires-after_bounds : goal.gather-requires-after_bounds
gather-requires-after_bounds g c κs within = λ k d lt.
    let ports : length c.args.captures.items ≡ c.in-Ok-still.still.ports = c.requires.captures ∙ sym (ap (λ (s : StillWorld). s.ports) c.in-Ok-still.ensures) in
    come_within c.args.captures.items c.deref.result.now c.in-Ok-still.still.ports (c.deref.ensures.value ∙ c.in-Ok.ensures) ports k d lt
