use Rattle.std.proofs.Common.{◌≡◌, ◌<◌, ◌≤◌, length, get_or, add-one, sym, ap, ◌∙◌, arith}
use Rattle.std.proofs.lemmas.List.{get_or_default}
use Rattle.ng_shape.specs.declared.tree.Member.{Member}
use Rattle.ng_shape.specs.Values.{value_of, members_of}
use Rattle.ng_parse.proofs.Members.{found_at, passed_at, kept_at, taken_out, not_there, all_kept}
use Rattle.ng_parse.proofs.counting.take_member.Goals as goal

pub returns-then-index-number-clause-tree : goal.returns-then-index-number-clause-tree
returns-then-index-number-clause-tree c =
    let ms = c.args.members.items in
    let at = c.loop-at.at in
    let lt : at < length ms = omega (arith, c.loop-at-test.true, c.len-at-end.ensures, c.args.members.ok.0) in
    let here : c.index.result.now ≡ get_or ms at c.index.result.now = rw c.loop-at.invariant.same at c.index.ensures in
    let removed : c.remove-tree.result ≡ get_or ms at c.remove-tree.result = rw c.loop-at.invariant.same at c.remove-tree.ensures.value in
    let same_number : (get_or ms at c.remove-tree.result).number ≡ c.args.number = ap (λ (m : Member). m.number) (get_or_default ms at c.remove-tree.result c.index.result.now lt) ∙ ap (λ (m : Member). m.number) (sym here) ∙ c.if-index-number.true in
    ap (λ (m : Member). value_of m.tree) removed ∙ sym (found_at ms at c.args.number c.remove-tree.result lt same_number) ∙ c.loop-at.invariant.found

pub returns-then-index-number-clause-rest : goal.returns-then-index-number-clause-rest
returns-then-index-number-clause-rest c =
    let ms = c.args.members.items in
    let at = c.loop-at.at in
    let lt : at < length ms = omega (arith, c.loop-at-test.true, c.len-at-end.ensures, c.args.members.ok.0) in
    let here : c.index.result.now ≡ get_or ms at c.index.result.now = rw c.loop-at.invariant.same at c.index.ensures in
    let same_number : (get_or ms at c.index.result.now).number ≡ c.args.number = ap (λ (m : Member). m.number) (sym here) ∙ c.if-index-number.true in
    ap members_of (rw (c.loop-at.invariant.same, add-one) at c.remove-tree.ensures.by_index.2) ∙ sym (taken_out ms at c.args.number c.index.result.now lt same_number) ∙ c.loop-at.invariant.rest

pub loop-at-preserved : goal.loop-at-preserved
loop-at-preserved c =
    let ms = c.args.members.items in
    let at = c.loop-at.at in
    let lt : at < length ms = omega (arith, c.loop-at-test.true, c.len-at-end.ensures, c.args.members.ok.0) in
    let here : c.index.result.now ≡ get_or ms at c.index.result.now = rw c.loop-at.invariant.same at c.index.ensures in
    let other = λ (e : (get_or ms at c.index.result.now).number ≡ c.args.number). c.if-index-number.false (ap (λ (m : Member). m.number) here ∙ e) in
    record {
      same = c.loop-at.invariant.same;
      found = rw add-one (passed_at ms at c.args.number c.index.result.now lt other ∙ c.loop-at.invariant.found);
      rest = rw add-one (kept_at ms at c.args.number c.index.result.now lt other ∙ c.loop-at.invariant.rest);
    }

pub returns-clause-tree : goal.returns-clause-tree
returns-clause-tree c =
    let ms = c.args.members.items in
    let le : length ms ≤ c.loop-at.at = omega (arith, c.loop-at-test.false, c.len-at-end.ensures, c.args.members.ok.0) in
    sym (not_there ms c.loop-at.at c.args.number le) ∙ c.loop-at.invariant.found

pub returns-clause-rest : goal.returns-clause-rest
returns-clause-rest c =
    let ms = c.args.members.items in
    let le : length ms ≤ c.loop-at.at = omega (arith, c.loop-at-test.false, c.len-at-end.ensures, c.args.members.ok.0) in
    ap members_of c.loop-at.invariant.same ∙ sym (all_kept ms c.loop-at.at c.args.number le) ∙ c.loop-at.invariant.rest
