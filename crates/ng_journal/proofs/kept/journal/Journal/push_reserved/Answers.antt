use Rattle.std.proofs.Common.{◌≡◌, Some}
use Rattle.ng_journal.specs.kept.Shorts.{of_short}
use Rattle.ng_journal.proofs.kept.Pushing.{pushed, behind_pushed, count_pushed}
use Rattle.ng_journal.proofs.kept.journal.Journal.push_reserved.Goals as goal

pub invariant_of-self : goal.invariant_of-self
invariant_of-self c =
    let shorts = c.self.inside.shorts.items in
    let great = c.self.inside.great.items in
    let is : of_short c.in-Some.short ≡ Some c.args.event = c.in-Some.ensures.short in
    record {
      behind = rw c.push_reserved.ensures.items (behind_pushed shorts great c.in-Some.short c.args.event c.self.invariant.behind is);
      count = rw c.push_reserved.ensures.items (count_pushed shorts great c.in-Some.short c.args.event c.self.invariant.behind is c.self.invariant.count);
    }

pub returns-in-Some-clause-items : goal.returns-in-Some-clause-items
returns-in-Some-clause-items c =
    let shorts = c.self.inside.shorts.items in
    let great = c.self.inside.great.items in
    rw (c.push_reserved.ensures.items, ← c.self.view_is) (pushed shorts great c.in-Some.short c.args.event c.self.invariant.behind c.in-Some.ensures.short)
