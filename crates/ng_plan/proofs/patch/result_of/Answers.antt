-- The mode's result, taken to the bits of the operation.
use Rattle.ng_plan.proofs.patch.result_of.Goals as goal

pub returns-clause-value : goal.returns-clause-value
returns-clause-value c = cc
