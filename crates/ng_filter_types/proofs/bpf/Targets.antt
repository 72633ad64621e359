-- A target's field: empty, a name, or neither.
use Rattle.std.proofs.Common.{◌≡◌, ◌≢◌, ℕ, ◌+◌, ◌-◌, take, drop, arith, true, false, List, [], ◌∷◌, Option, Some, None, MatchOption, is_none, refl, ap}
use Rattle.ng_base.specs.Name.{name_fault}
use Rattle.ng_base.specs.declared.name.NameFault.{NameFault}
use Rattle.ng_base.proofs.NameLemmas.{no_empty_name}
use Rattle.std.specs.Prelude.{slice_range}
use Rattle.ng_message.specs.Fields.{field_text}
use Rattle.ng_machine.specs.Arguments.{text_at}
use Rattle.ng_machine.specs.kinds.Bpf.{is_target, target_of}

named_is_target : (text : List ℕ) → name_fault text ≡ None → is_target text ≡ true
named_is_target [] named = refl
named_is_target (byte ∷ text) named = ap is_none named

named_target : (text name : List ℕ) → name ≡ text → name_fault text ≡ None → Some name ≡ target_of text
named_target [] name same named = absurd (no_empty_name named)
named_target (byte ∷ text) name same named = ap Some same

empty_is_target : (text : List ℕ) → text ≡ [] → is_target text ≡ true
empty_is_target text empty = rw empty refl

empty_target : (text : List ℕ) → text ≡ [] → ◌≡◌ {A = Option (List ℕ)} None (target_of text)
empty_target text empty = rw empty refl

bad_target : (text : List ℕ) (fault : NameFault) → text ≢ [] → name_fault text ≡ Some fault → is_target text ≡ false
bad_target [] fault some bad = absurd (some refl)
bad_target (byte ∷ text) fault some bad = ap is_none bad

-- what a field was read as
pub target_is : (text : List ℕ) (target : Option (List ℕ)) → MatchOption target (text ≡ []) (λ name. (name ≡ text) × (name_fault text ≡ None)) → (is_target text ≡ true) × (target ≡ target_of text)
target_is text None empty = (empty_is_target text empty, empty_target text empty)
target_is text (Some name) named = (named_is_target text named.1, named_target text name named.0 named.1)

pub target_fails : (text : List ℕ) (fault : NameFault) → (text ≢ []) × (name_fault text ≡ Some fault) → is_target text ≡ false
target_fails text fault bad = bad_target text fault bad.0 bad.1

-- the text of a field
pub field_at : (args : List ℕ) (at : ℕ) → field_text (slice_range args at (at + 32)) ≡ text_at args at
field_at args at = let e : at + 32 - at ≡ 32 = omega arith in ap (λ (n : ℕ). field_text (take n (drop at args))) e
