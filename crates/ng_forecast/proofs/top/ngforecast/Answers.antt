use Rattle.ng_forecast.proofs.Behaves.{is_forecast_call}
use Rattle.ng_forecast.proofs.top.ngforecast.Goals as goal

pub returns : goal.returns
returns g c = is_forecast_call _ _ _ c.forecast_call.result c.forecast_call.ensures
