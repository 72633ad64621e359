use Rattle.ng_forecast.proofs.ComesTrue.{forecasts_come_true as proved}
use Rattle.ng_forecast.proofs.laws.forecasts_come_true.Goals as goal

pub returns : goal.returns
returns c = proved
