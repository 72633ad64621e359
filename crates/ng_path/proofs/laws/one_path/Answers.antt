use Rattle.ng_path.proofs.Whole.{same_path}
use Rattle.ng_path.proofs.laws.one_path.Goals as goal

pub returns : goal.returns
returns c = same_path
