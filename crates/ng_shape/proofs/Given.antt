-- Members that are something.
use Rattle.std.proofs.Common.{◌≡◌, ◌<◌, ◌++◌, ℕ, true, false, List, [], ◌∷◌, length, refl, sym, ap, ◌∙◌, arith}
use Rattle.ng_shape.specs.declared.tree.Member.{Member}
use Rattle.ng_shape.specs.Values.{Value, Absent, Number, Text, Group, pack, is_absent, members_of, member_of}
use Rattle.ng_shape.specs.Decoding.{given, group_value}
use Rattle.ng_shape.proofs.Views.{members_of_push}

pub given_some : (i : ℕ) (v : Value) → is_absent v ≡ false → given i v ≡ (i, v) ∷ []
given_some i Absent e = cc
given_some i (Number left n) e = refl
given_some i (Text bs) e = refl
given_some i (Group left ms) e = refl

pub given_none : (i : ℕ) (v : Value) → is_absent v ≡ true → given i v ≡ []
given_none i Absent e = refl
given_none i (Number left n) e = cc
given_none i (Text bs) e = cc
given_none i (Group left ms) e = cc

pub nil_is : (v : Value) → is_absent v ≡ true → v ≡ Absent
nil_is Absent e = refl
nil_is (Number left n) e = cc
nil_is (Text bs) e = cc
nil_is (Group left ms) e = cc

pub group_some : (ms : List Member) → 0 < length ms → Group 0 (pack (members_of ms)) ≡ group_value (members_of ms)
group_some [] lt = absurd (omega arith)
group_some (m ∷ ms) lt = refl

-- one member more, which is something
pub pushed : (ms : List Member) (m : Member) → is_absent (member_of m).1 ≡ false → members_of (ms ++ m ∷ []) ≡ members_of ms ++ given m.number (member_of m).1
pushed ms m e = members_of_push ms m ∙ ap (λ (x : List (ℕ × Value)). members_of ms ++ x) (sym (given_some m.number (member_of m).1 e))
