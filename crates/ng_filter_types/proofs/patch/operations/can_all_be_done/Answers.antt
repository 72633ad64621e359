-- All operations can be done where each can.
use Rattle.std.proofs.Common.{rules, tests}
use Rattle.std.proofs.lemmas.Iterator.{YieldsList-from_slice}
use Rattle.std.proofs.lemmas.Iterator.Search.{all_from_yields_List}
use Rattle.ng_machine.specs.kinds.Patch.{is_op}
use Rattle.ng_filter_types.proofs.patch.operations.can_all_be_done.Goals as goal

pub returns : goal.returns
returns c = all_from_yields_List is_op _ _ c.all.result c.all.ensures.ran (YieldsList-from_slice c.args.ops.now cc) (λ x b q k. search (rules, tests))
