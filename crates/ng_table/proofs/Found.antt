-- What is found in the table has shapes.
use Rattle.std.proofs.Common.{◌≡◌, ℕ, ◌==◌, Bool, List, [], ◌∷◌, find, Option, Some, None, IfSome, sym, subst, inl, inr, rules}
use Rattle.std.specs.Borrow.{Bor}
use Rattle.std.specs.List.{AllByRecursion}
use Rattle.std.proofs.lemmas.Bool.{cases_Bool}
use Rattle.ng_base.specs.declared.kind.Kind.{Kind}
use Rattle.ng_table.specs.declared.row.Row.{Row}
use Rattle.ng_table.specs.Message.{Message, message_of, message_seen}
use Rattle.ng_table.specs.Cookie.{generic_cookie, kind_with}
use Rattle.ng_table.specs.Table.{messages_if, messages_with}
use Rattle.ng_table.specs.Laws.{HasShapes, ShapesAreShapes}

-- what is found is one of those that were looked through
pub found_has : {A : Type 0} (P : A → Type 0) (test : A → Bool) (xs : List A) (x : A) → AllByRecursion P xs → find test xs ≡ Some x → P x
found_has P test [] x all is = absurd (cc is)
found_has P test (y ∷ ys) x all is = elim (cases_Bool (test y)) [
  | inl is_it ↦ let same : y ≡ x = cc (rw is_it at is) in subst P same all.0
  | inr is_not ↦ found_has P test ys x all.1 (rw is_not at is)
]

pub all_shapes : ShapesAreShapes
all_shapes = search rules

with_kind : (kind : Option Kind) → AllByRecursion HasShapes (messages_if kind)
with_kind None = tt
with_kind (Some kind) = all_shapes.1 kind

pub with_cookie : (cookie : ℕ) → AllByRecursion HasShapes (messages_with cookie)
with_cookie cookie = elim (cases_Bool (cookie == generic_cookie)) [
  | inl is ↦ rw is all_shapes.0
  | inr other ↦ rw other (with_kind (kind_with cookie))
]

-- a row that was found among rows that say such messages
pub seen_has : (seen : Option (Bor Row)) (test : Message → Bool) (messages : List Message) → AllByRecursion HasShapes messages → message_seen seen ≡ find test messages → IfSome seen (λ row. HasShapes (message_of row.now))
seen_has None test messages all is = tt
seen_has (Some row) test messages all is = found_has HasShapes test messages (message_of row.now) all (sym is)
