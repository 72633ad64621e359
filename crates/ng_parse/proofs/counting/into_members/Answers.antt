use Rattle.std.proofs.Common.{◌≡◌, sym, ap, ◌∙◌}
use Rattle.ng_shape.specs.Values.{Group, value_of, members_of, pack}
use Rattle.ng_shape.proofs.Views.{value_group, unpack_pack}
use Rattle.ng_parse.proofs.counting.into_members.Goals as goal

pub returns-in-Group : goal.returns-in-Group
returns-in-Group c =
    let v = c.in-Group.members in
    let e : value_of c.args.tree ≡ Group c.in-Group.left (pack (members_of v.items)) = ap value_of c.in-Group.is ∙ value_group c.in-Group.left v in
    rw e (sym (unpack_pack (members_of v.items)))
