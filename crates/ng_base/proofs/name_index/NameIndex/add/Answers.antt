-- A name that is put in at a place, and its number at the same place, is there once more.
use Rattle.ng_base.proofs.NumberedNames.{times_inserted}
use Rattle.ng_base.proofs.name_index.NameIndex.add.Goals as goal

pub returns-clause-added : goal.returns-clause-added
returns-clause-added c other n =
    rw (c.in-Ok.ensures.items, c.in-Ok-insert.ensures.items, ← c.self.view_is)
    (times_inserted c.self.inside.sorted.items c.self.inside.numbers.items c.place-at.result c.args.name c.args.number other n c.self.invariant.1
    (rw (← c.self.view_is) at c.place-at.ensures.in_range))
