use Rattle.std.proofs.Common.{sym}
use Rattle.ng_forecast.proofs.ByHook.{stays}
use Rattle.ng_forecast.proofs.hooks.place_of.Goals as goal

pub returns-in-Some-clause-names : goal.returns-in-Some-clause-names
returns-in-Some-clause-names c = sym (stays c.args.hook.now c.in-Some.place c.args.hooks.now.places.entries c.requires.ordered (sym c.in-Some.ensures))
