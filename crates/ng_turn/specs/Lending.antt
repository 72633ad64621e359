-- What the reference that `value_mut` returns does to the held value.
use Rattle.std.specs.Borrow.{Lends, MutBor, Fml}
use denote.RattleType.{RattleType}
use Rattle.ng_turn.specs.declared.held.Held.{Held}
use Rattle.ng_turn.specs.contracts.held.Held.{the_row}

-- the held value with another value in its place, by the same seat and with what was found
abbrev pub with_value : {T D : Type 0} → Held T D → T → Held T D
with_value held value = record held { value = value }

-- the held value ends with the last value behind the reference
abbrev pub LendsValue : (T D : RattleType) → MutBor (Held T.Denot D.Denot) → MutBor T.Denot → Fml
LendsValue T D held reference = Lends (the_row T D) T held reference (with_value held.now)
