-- Laws of the table.
use Rattle.std.specs.Prelude.{◌≡◌, ℕ, ◌/◌, ◌%◌, Bool, true, false, not, ◌&&◌, ◌||◌, ◌==◌, nat_lt, List, [], ◌∷◌, codes, map, Some}
use Rattle.std.specs.List.{list_any, AllByRecursion}
use Rattle.std.specs.Str.{bytes_eq}
use Rattle.ng_base.specs.declared.kind.Kind.{Kind}
use Rattle.ng_shape.specs.Shape.{Shape, Nothing}
use Rattle.ng_shape.specs.Sound.{IsShape}
use Rattle.ng_table.specs.Message.{Message, read_only, has_answer}
use Rattle.ng_table.specs.Cookie.{generic_cookie, cookie_of}
use Rattle.ng_table.specs.Generic.{generic_messages}
use Rattle.ng_table.specs.Table.{messages_of, find_name, find_number}

-- P holds of each message of the table
abbrev pub OfEach : (Message → Type 0) → Type 0
OfEach P = AllByRecursion P generic_messages × ((kind : Kind) → AllByRecursion P (messages_of kind))

-- its arguments and its answer are of a shape
abbrev pub HasShapes : Message → Type 0
HasShapes message = IsShape message.args × IsShape message.answer

abbrev pub ShapesAreShapes : Type 0
ShapesAreShapes = OfEach HasShapes

abbrev pub has_bit : ℕ → Message → Bool
has_bit bit message = message.number / bit % 2 == 1

abbrev pub is_nothing : Shape → Bool
is_nothing Nothing = true
is_nothing _ = false

-- three messages would be answered, and are refused by every node
abbrev pub is_refused : Message → Bool
is_refused message = list_any (λ name. bytes_eq name message.name) (codes "textstatus" ∷ codes "binary2ascii" ∷ codes "ascii2binary" ∷ [])

-- the bit of an answer stands where there is one, or would be; a message that changes nothing has it; and below the
-- bits the number is small
pub record TellsOfAnswer (message : Message) : Type 0 where
  pub answer : has_bit has_answer message ≡ not (is_nothing message.answer) || is_refused message
  pub reader : has_bit read_only message && not (has_bit has_answer message) ≡ false
  pub small : nat_lt 0 (message.number % read_only) && nat_lt (message.number % read_only) 15 ≡ true

abbrev pub NumbersTellOfAnswers : Type 0
NumbersTellOfAnswers = OfEach TellsOfAnswer

-- none of them is the same as a later one
abbrev pub are_different : {A : Type 0} → (A → A → Bool) → List A → Bool
are_different same [] = true
are_different same (x ∷ xs) = not (list_any (same x) xs) && are_different same xs

-- neither two numbers nor two names are one
abbrev pub AreDifferent : List Message → Type 0
AreDifferent messages = (are_different (λ m n. m == n) (map (λ message. message.number) messages) ≡ true)
    × (are_different (λ m n. bytes_eq m n) (map (λ message. message.name) messages) ≡ true)

abbrev pub NumbersAndNamesDiffer : Type 0
NumbersAndNamesDiffer = AreDifferent generic_messages × ((kind : Kind) → AreDifferent (messages_of kind))

-- a type's message is found by its name at the type, and by the type's cookie and its number
abbrev pub IsFoundAt : Kind → Message → Type 0
IsFoundAt kind message = (find_name kind message.name ≡ Some (cookie_of kind, message)) × (find_number (cookie_of kind) message.number ≡ Some message)

-- a message that all nodes know is found by its name at every type, and by its cookie and number
abbrev pub IsFoundEverywhere : Message → Type 0
IsFoundEverywhere message =
    ((kind : Kind) → find_name kind message.name ≡ Some (generic_cookie, message))
    × (find_number generic_cookie message.number ≡ Some message)

abbrev pub RowsAreFound : Type 0
RowsAreFound = AllByRecursion IsFoundEverywhere generic_messages × ((kind : Kind) → AllByRecursion (IsFoundAt kind) (messages_of kind))
