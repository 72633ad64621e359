-- What a binary search finds is the name, and where it finds none, the name is not there.
use Rattle.std.proofs.Common.{◌<◌, Err, length, refl, sym, arith}
use Rattle.std.proofs.lemmas.List.Edits.{length-remove}
use Rattle.ng_base.proofs.NameIndexLemmas.{has_searched, ordered_remove}
use Rattle.ng_base.proofs.NumberedNames.{found_removed}
use Rattle.ng_base.proofs.name_index.NameIndex.remove_once.Goals as goal

pub returns-in_default-clause-removed : goal.returns-in_default-clause-removed
returns-in_default-clause-removed c =
    rw (← c.self.view_is) (
      sym (has_searched c.self.inside.sorted.items c.args.name.now (Err c.in_default.field-0) c.self.invariant.0
          (rw c.deref.ensures.value at c.in_default.ensures.bound)
          (rw c.deref.ensures.value at c.in_default.ensures.position)),
      refl,
    )

pub invariant_of-self : goal.invariant_of-self
invariant_of-self c =
    let within = rw c.deref.ensures.value at c.in-Ok.ensures.bound in
    let also : c.in-Ok.at < length c.self.inside.numbers.items = omega (arith, c.self.invariant.1, within) in
    rw (c.remove-name.ensures.items, c.remove.ensures.items) (
      ordered_remove c.self.inside.sorted.items c.in-Ok.at c.self.invariant.0 within,
      omega (arith, c.self.invariant.1, length-remove c.self.inside.sorted.items c.in-Ok.at within, length-remove c.self.inside.numbers.items c.in-Ok.at also),
    )

pub returns-clause-removed : goal.returns-clause-removed
returns-clause-removed c other n =
    rw (c.remove-name.ensures.items, c.remove.ensures.items, ← c.self.view_is)
    (found_removed c.self.inside.sorted.items c.self.inside.numbers.items c.in-Ok.at c.args.name.now c.remove.result other n c.self.invariant.1
    (rw c.deref.ensures.value at c.in-Ok.ensures.bound)
    (rw c.deref.ensures.value at c.in-Ok.ensures.ok)
    c.remove.ensures.value)
