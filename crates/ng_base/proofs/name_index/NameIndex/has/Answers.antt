-- A binary search of names in order finds one exactly where it is among them.
use Rattle.std.proofs.Common.{◌≡◌, ℕ, List, ap, ◌∙◌, sym, subst}
use Rattle.ng_base.proofs.NameIndexLemmas.{has_searched}
use Rattle.ng_base.specs.NameIndex.{Index, IsInOrder}
use Rattle.ng_base.specs.Names.{has_name}
use Rattle.ng_base.proofs.name_index.NameIndex.has.Goals as goal

pub returns : goal.returns
returns c =
    let in_order : IsInOrder c.deref.result.now = subst IsInOrder (sym c.deref.ensures.value) c.self.invariant.0 in
    let same : c.deref.result.now ≡ c.args.self.now.names = c.deref.ensures.value ∙ ap (λ (i : Index). i.names) c.self.view_is in
    c.is_ok.ensures.value
    ∙ has_searched c.deref.result.now c.args.name.now c.binary_search.result in_order c.binary_search.ensures.bound c.binary_search.ensures.position
    ∙ ap (λ (names : List (List ℕ)). has_name names c.args.name.now) same
