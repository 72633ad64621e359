-- A name stays in order beside one that is the same, and between those below it and those above.
use Rattle.std.proofs.Common.{◌≡◌, ℕ, List, insert, ap, ◌∙◌, sym, subst}
use Rattle.ng_base.proofs.NameIndexLemmas.{ordered_beside, ordered_between}
use Rattle.ng_base.specs.NameIndex.{Index, IsInOrder}
use Rattle.ng_base.proofs.name_index.NameIndex.place.Goals as goal

pub returns-in-Ok-clause-in_order : goal.returns-in-Ok-clause-in_order
returns-in-Ok-clause-in_order c =
    let in_order : IsInOrder c.deref.result.now = subst IsInOrder (sym c.deref.ensures.value) c.self.invariant.0 in
    let same : c.deref.result.now ≡ c.args.self.now.names = c.deref.ensures.value ∙ ap (λ (i : Index). i.names) c.self.view_is in
    subst (λ (names : List (List ℕ)). IsInOrder (insert names c.in-Ok.at c.args.name.now)) same
    (ordered_beside c.deref.result.now c.in-Ok.at c.args.name.now in_order c.in-Ok.ensures.bound c.in-Ok.ensures.ok)

pub returns-in-Err-clause-in_order : goal.returns-in-Err-clause-in_order
returns-in-Err-clause-in_order c =
    let in_order : IsInOrder c.deref.result.now = subst IsInOrder (sym c.deref.ensures.value) c.self.invariant.0 in
    let same : c.deref.result.now ≡ c.args.self.now.names = c.deref.ensures.value ∙ ap (λ (i : Index). i.names) c.self.view_is in
    subst (λ (names : List (List ℕ)). IsInOrder (insert names c.in-Err.at c.args.name.now)) same
    (ordered_between c.deref.result.now c.in-Err.at c.args.name.now in_order c.in-Err.ensures.bound c.in-Err.ensures.position)
