-- The index has the name exactly where the list has it.
use Rattle.std.proofs.Common.{◌∙◌}
use Rattle.ng_base.proofs.NumberedNames.{has_in_index}
use Rattle.ng_base.proofs.name_list.NameList.has.Goals as goal

pub returns : goal.returns
returns c =
    rw (← c.self.view_is)
    (c.has.ensures ∙ has_in_index c.self.inside.items.items c.self.inside.numbers.items c.self.inside.next c.self.inside.index c.args.name.now c.self.invariant)
