-- The list and its index have the name with the next number, which is above all others.
use Rattle.ng_base.proofs.NumberedNames.{indexed_added}
use Rattle.ng_base.proofs.name_list.NameList.add.Goals as goal

pub invariant_of-self : goal.invariant_of-self
invariant_of-self c =
    rw (c.push_reserved.ensures.items, c.push_reserved-2.ensures.items)
    (indexed_added c.self.inside.items.items c.self.inside.numbers.items c.self.inside.next c.self.inside.index c.add.new.self c.args.name c.self.invariant
    c.add.ensures.added c.add.ensures.numbered)
