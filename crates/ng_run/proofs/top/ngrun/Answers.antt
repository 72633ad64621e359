use Rattle.ng_call.specs.Called.{texts}
use Rattle.ng_call.proofs.Behaves.{is_run_call}
use Rattle.ng_run.proofs.top.ngrun.Goals as goal

pub returns : goal.returns
returns g c = is_run_call _ (texts c.args.words.now) _ c.run_call.result c.run_call.ensures
