-- Shapes and values as the contracts see them.
use Rattle.std.proofs.Common.{◌≡◌, ℕ, List, [], ◌∷◌, ◌++◌, refl, ap, ◌∙◌, Bor, Vec, Global}
use Rattle.ng_shape.specs.declared.shape.Shape as rust
use Rattle.ng_shape.specs.declared.shape.Shape.{Row_of-Field, end_of-Field, more_of-Field, items-the_row-Field, items_hidden-the_row-Field-0}
use Rattle.ng_shape.specs.declared.shape.Shape.TheBlock.{hidden-the_row-Field-0}
use Rattle.ng_shape.specs.declared.tree.Tree as trees
use Rattle.ng_shape.specs.declared.tree.Tree.{Row_of-Member, end_of-Member, more_of-Member, items-the_row-Member, items_hidden-the_row-Member-0}
use Rattle.ng_shape.specs.declared.tree.Tree.TheBlock.{hidden-the_row-Member-0}
use Rattle.ng_shape.specs.declared.shape.Field.{Field}
use Rattle.ng_shape.specs.declared.tree.Member.{Member}
use Rattle.ng_shape.specs.Shape.{Fields, Struct, field, shape_of, fields_in, fields_of}
use Rattle.ng_shape.specs.Values.{Value, Group, member, value_of, members_in, pack, unpack, member_of, members_of}

fields_of_row : {m : _} (row : Row_of-Field m) → fields_in row ≡ fields_of (items-the_row-Field m row)
fields_of_row end_of-Field = refl
fields_of_row (more_of-Field name shape rest) = ap (λ (ps : Fields). field name.now (shape_of shape) ps) (fields_of_row rest)

-- the shape of a structure
pub shape_struct : (fields : Bor (List Field)) → shape_of (rust.Struct fields) ≡ Struct (fields_of fields.now)
shape_struct fields = ap Struct (fields_of_row (hidden-the_row-Field-0 fields.now) ∙ ap fields_of (items_hidden-the_row-Field-0 fields.now))

members_of_row : {m : _} (row : Row_of-Member m) → members_in row ≡ pack (members_of (items-the_row-Member m row))
members_of_row end_of-Member = refl
members_of_row (more_of-Member i tree rest) = ap (member i (value_of tree)) (members_of_row rest)

-- a group's value
pub value_group : (left : ℕ) (v : Vec Member Global) → value_of (trees.Group left v) ≡ Group left (pack (members_of v.items))
value_group left v = ap (Group left) (members_of_row (hidden-the_row-Member-0 v) ∙ ap (λ (ms : List Member). pack (members_of ms)) (items_hidden-the_row-Member-0 v))

-- one member more
pub members_of_push : (ms : List Member) (m : Member) → members_of (ms ++ m ∷ []) ≡ members_of ms ++ member_of m ∷ []
members_of_push [] m = refl
members_of_push (k ∷ ms) m = ap (λ (x : List (ℕ × Value)). member_of k ∷ x) (members_of_push ms m)

pub unpack_pack : (ms : List (ℕ × Value)) → unpack (pack ms) ≡ ms
unpack_pack [] = refl
unpack_pack (m ∷ ms) = ap (λ (ks : List (ℕ × Value)). m ∷ ks) (unpack_pack ms)
