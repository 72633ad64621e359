use Rattle.std.proofs.Common.{◌≡◌, ◌∙◌, refl}
use Rattle.ng_shape.specs.Values.{Number, value_of, members, members_of}
use Rattle.ng_shape.proofs.Views.{value_group}
use Rattle.ng_parse.specs.Counts.{put_field}
use Rattle.ng_parse.proofs.counting.put_inside.Goals as goal

pub returns : goal.returns
returns c =
    let v = c.in_ok-members.members in
    let put : members_of v.items ≡ put_field c.args.number (Number 0 c.args.count) (members (value_of c.args.structure)) = rw c.into_members.ensures at c.in_ok-members.ensures in
    value_group c.left_of-left.result v ∙ rw (c.left_of-left.ensures, put) refl
