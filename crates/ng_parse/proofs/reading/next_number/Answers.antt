use Rattle.std.proofs.Common.{◌≡◌, suc, ◌-◌, length, ap, arith}
use Rattle.ng_shape.specs.declared.tree.Member.{Member}
use Rattle.ng_parse.proofs.Members.{next_last}
use Rattle.ng_parse.proofs.reading.next_number.Goals as goal

pub returns-in-len1-up-clause-next : goal.returns-in-len1-up-clause-next
returns-in-len1-up-clause-next c =
    let ms = c.args.members.now in
    let k : length ms ≡ suc (length ms - 1) = omega (arith, c.in-len1-up.len_at_least) in
    let one = next_last ms (length ms - 1) c.last-item.result k in
    let two = ap (λ (m : Member). m.number) c.last-item.is in
    omega (arith, one, two, c.from.ensures)
