use Rattle.std.proofs.Common.{◌∙◌, map, ap}
use Rattle.ngctl_script.specs.feed.Inputs.{Timed, inputs_of}
use Rattle.ng_forecast.specs.Arrivals.{packets_among}
use Rattle.ng_forecast.proofs.Coming.{are_merged}
use Rattle.ng_forecast.proofs.stand.arrivals_of.Goals as goal

pub returns : goal.returns
returns c =
    c.in_ok-arrivals.ensures
    ∙ (ap packets_among (c.in_ok-inputs.ensures ∙ ap (λ (s : Timed). inputs_of s (map (λ capture. capture.kept) c.args.captures.items)) c.in-Ok.ensures.read.1)
    ∙ are_merged (map (λ capture. capture.kept) c.args.captures.items))
