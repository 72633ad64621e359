-- An event of small numbers is added where there is room for it.
use Rattle.std.proofs.Common.{◌≡◌, List, [], ◌∷◌, ◌++◌, Some, ap, ◌∙◌}
use Rattle.ng_journal.specs.declared.kept.short.Short.{Short}
use Rattle.ng_journal.specs.kept.Shorts.{of_short}
use Rattle.ng_journal.proofs.kept.Pushing.{pushed, behind_pushed, count_pushed}
use Rattle.ng_journal.proofs.kept.journal.Journal.push.Goals as goal

pub invariant_of-self-in-Some : goal.invariant_of-self-in-Some
invariant_of-self-in-Some c =
    let shorts = c.self.inside.shorts.items in
    let great = c.self.inside.great.items in
    let is : of_short c.in-Some.short ≡ Some c.args.event = c.in-Some.ensures.short in
    let items : c.push_reserved.new.self.items ≡ shorts ++ c.in-Some.short ∷ [] = c.push_reserved.ensures.items ∙ ap (λ (l : List Short). l ++ c.in-Some.short ∷ []) c.in_ok-reserve.ensures.items in
    record {
      behind = rw items (behind_pushed shorts great c.in-Some.short c.args.event c.self.invariant.behind is);
      count = rw items (count_pushed shorts great c.in-Some.short c.args.event c.self.invariant.behind is c.self.invariant.count);
    }

pub returns-in-Some-clause-ok : goal.returns-in-Some-clause-ok
returns-in-Some-clause-ok c =
    let shorts = c.self.inside.shorts.items in
    let great = c.self.inside.great.items in
    let items : c.push_reserved.new.self.items ≡ shorts ++ c.in-Some.short ∷ [] = c.push_reserved.ensures.items ∙ ap (λ (l : List Short). l ++ c.in-Some.short ∷ []) c.in_ok-reserve.ensures.items in
    rw (items, ← c.self.view_is) (pushed shorts great c.in-Some.short c.args.event c.self.invariant.behind c.in-Some.ensures.short)
