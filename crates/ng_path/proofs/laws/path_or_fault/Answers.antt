use Rattle.ng_path.proofs.Whole.{no_path_fault}
use Rattle.ng_path.proofs.laws.path_or_fault.Goals as goal

pub returns : goal.returns
returns c = no_path_fault
