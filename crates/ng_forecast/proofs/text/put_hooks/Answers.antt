use Rattle.ng_forecast.proofs.ByHook.{lines_told}
use Rattle.ng_forecast.proofs.text.put_hooks.Goals as goal

pub returns : goal.returns
returns c =
    lines_told c.args.hooks.now c.loop-name.text.items c.args.text.now.items c.loop-name.name-iterator
    c.into_iter-name-iterator.ensures.into_iter_gives.6 c.in-None.ensures.steps.0 c.loop-name.invariant
