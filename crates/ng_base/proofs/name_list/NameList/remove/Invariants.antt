-- Nothing but this name was taken out so far, and each time there is one name less.
use Rattle.std.proofs.Common.{◌≡◌, length}
use Rattle.ng_base.specs.Names.{without_name}
use Rattle.ng_base.proofs.name_list.NameList.remove.Given as goal

abbrev pub invariant-loop : goal.invariant-loop
invariant-loop l = without_name l.self.names l.name ≡ without_name l.fn.self.names l.name

abbrev pub decreases-loop : goal.decreases-loop
decreases-loop l = length l.self.names
