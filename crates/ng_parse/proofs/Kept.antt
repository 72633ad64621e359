-- What is read from a text has room in its shape, as far as no count is concerned.
use Rattle.std.proofs.Common.{◌≡◌, ◌<◌, ◌≤◌, ◌+◌, ◌-◌, ◌*◌, ◌%◌, ◌^◌, ℕ, zero, suc, Bool, true, cond, eqb, ltb, leb, ◌&&◌, ◌||◌, List, [], ◌∷◌}
use Rattle.std.proofs.Common.{◌++◌, length, drop, Option, Some, None, option_map, Result, Ok, Err, refl, sym, subst, inl, inr, arith, length-append}
use Rattle.std.specs.Prelude.{IfOk, IfSome}
use Rattle.std.specs.Char.{digit_value}
use Rattle.std.proofs.Math.Nat.{mod-lt}
use Rattle.std.proofs.lemmas.Bool.{and_parts, or_parts, cond_both, ltb-true, leb-false, eqb-true, eqb-false}
use Rattle.ng_shape.specs.Shape.{Shape, Nothing, UInt, Int, Hex, Str, Ether, Struct, Array, Counted, Fields, no_fields, field}
use Rattle.ng_shape.specs.Sound.{has_width}
use Rattle.ng_shape.specs.Values.{Value, Number, Text, Group, number, chars, members, pack}
use Rattle.ng_shape.specs.Canonical.{AreBytes, AreChars}
use Rattle.ng_shape.proofs.Lookups.{bool_cases}
use Rattle.ng_shape.proofs.Pieces.{bytes_drop}
use Rattle.ng_shape.proofs.Views.{unpack_pack}
use Rattle.ng_parse.specs.declared.fault.Why.TheVariants.{Unexpected, Range}
use Rattle.ng_parse.specs.declared.fault.Fault.{Fault}
use Rattle.ng_shape.specs.Decoding.{◌>>=◌}
use Rattle.ng_parse.specs.Faults.{fails}
use Rattle.ng_parse.specs.Tokens.{is_blank, skip_blanks, word, after_word, starts, number_in, is_hex, group_in, next_group_in, with_first}
use Rattle.ng_parse.specs.Tokens.{groups_in, address_in}
use Rattle.ng_parse.specs.Reading.{Read, Reader, mark_at, maybe, repeat, limit, unsigned_below, signed_below, escape_value, wrong_escape, letter_at}
use Rattle.ng_parse.specs.Reading.{hex_at, escape_at, char_at, char_below, string_char, string_at, address_is, address_at, member_at, between}
use Rattle.ng_parse.specs.Reading.{known_field, fresh, field_at, next_number, number_at, has_index, after_index, index_at, indexed_at}
use Rattle.ng_parse.specs.Reading.{element_value, no_element, is_unexpected, with_number, element_at, group}

abbrev pub Each : (ℕ → Value → Type 0) → List (ℕ × Value) → Type 0
Each P [] = Unit {0}
Each P (m ∷ ms) = P m.0 m.1 × Each P ms

abbrev mutual
  pub Kept : Shape → Value → Type 0
  Kept Nothing v = Unit {0}
  Kept (UInt bits) v = number v < 2 ^ bits
  Kept (Int bits) v = number v < 2 ^ bits
  Kept (Hex bits) v = number v < 2 ^ bits
  Kept (Str n) v = AreChars (chars v) × (length (chars v) < n)
  Kept Ether v = AreBytes (chars v) × (length (chars v) ≤ 6)
  Kept (Struct ps) v = Each (KeptAt ps) (members v)
  Kept (Array n f) v = Each (λ i. Kept f) (members v)
  Kept (Counted by max f) v = Each (λ i. Kept f) (members v)

  -- the same of the field of that number
  pub KeptAt : Fields → ℕ → Value → Type 0
  KeptAt no_fields i v = Unit {0}
  KeptAt (field name f ps) zero v = Kept f v
  KeptAt (field name f ps) (suc i) v = KeptAt ps i v

pub each_push : (P : ℕ → Value → Type 0) (ms : List (ℕ × Value)) (i : ℕ) (v : Value) → Each P ms → P i v → Each P (ms ++ (i, v) ∷ [])
each_push P [] i v all one = (one, tt)
each_push P (m ∷ ms) i v all one = (all.0, each_push P ms i v all.1 one)

-- ---- results

pub bind_if : {A B E : Type 0} (r : Result A E) (f : A → Result B E) (P : A → Type 0) (Q : B → Type 0) → IfOk r P → ((x : A) → P x → IfOk (f x) Q) → IfOk (r >>= f) Q
bind_if (Ok x) f P Q h k = k x h
bind_if (Err e) f P Q h k = tt

some_map : {A : Type 0} (o : Option A) (P Q : A → Type 0) → IfSome o P → ((a : A) → P a → Q a) → IfSome o Q
some_map None P Q h k = tt
some_map (Some a) P Q h k = k a h

-- ---- tokens

pub skip_good : (text : List ℕ) → AreBytes text → AreBytes (skip_blanks text)
skip_good [] good = tt
skip_good (b ∷ bs) good = cond_both (is_blank b) (skip_blanks bs) (b ∷ bs) AreBytes (λ e. skip_good bs good.1) (λ e. good)

after_good : (text : List ℕ) → AreBytes text → AreBytes (after_word text)
after_good text good = bytes_drop (length (word text)) text good

mark_if : (c : ℕ) (text : List ℕ) → AreBytes text → IfOk (mark_at c text) AreBytes
mark_if c text good = cond_both (starts c text) (Ok (drop 1 text)) (fails Unexpected text) (λ r. IfOk r AreBytes) (λ e. bytes_drop 1 text good) (λ e. tt)

-- ---- integers

pub limit_is : (bits : ℕ) → has_width bits ≡ true → limit bits ≡ 2 ^ bits
limit_is bits e =
    elim (bool_cases (eqb bits 8)) [
      | inl hit ↦ let is : bits ≡ 8 = eqb-true bits 8 hit in rw is refl
      | inr a ↦ elim (bool_cases (eqb bits 16)) [
        | inl hit ↦ let is : bits ≡ 16 = eqb-true bits 16 hit in rw is refl
        | inr b ↦ elim (bool_cases (eqb bits 32)) [
          | inl hit ↦ let is : bits ≡ 32 = eqb-true bits 32 hit in rw is refl
          | inr d ↦ elim (bool_cases (eqb bits 64)) [
            | inl hit ↦ let is : bits ≡ 64 = eqb-true bits 64 hit in rw is refl
            | inr h ↦ let none = rw (a, b, d, h) at e in cc
          ]
        ]
      ]
    ]

abbrev pub NumberBelow : ℕ → Value × List ℕ → Type 0
NumberBelow most x = (number x.0 < most) × AreBytes x.1

pub unsigned_if : (most : ℕ) (text : List ℕ) (o : Option ℕ) → AreBytes text → IfOk (unsigned_below most text o) (NumberBelow most)
unsigned_if most text None good = tt
unsigned_if most text (Some n) good =
    cond_both (ltb n most) (Ok (Number (length text) n, after_word text)) (fails Range text) (λ r. IfOk r (NumberBelow most)) (λ e. (ltb-true n most e, after_good text good)) (λ e. tt)

pub signed_if : (most : ℕ) (text : List ℕ) (o : Option (Bool × ℕ)) → 0 < most → AreBytes text → IfOk (signed_below most text o) (NumberBelow most)
signed_if most text None some good = tt
signed_if most text (Some x) some good =
    let P : Read Value → Type 0 = λ r. IfOk r (NumberBelow most) in
    cond_both x.0 (cond (leb (2 * x.1) most) (Ok (Number (length text) ((most - x.1) % most), after_word text)) (fails Range text)) (cond (ltb (2 * x.1) most) (Ok (Number (length text) x.1, after_word text)) (fails Range text)) P
    (λ e. cond_both (leb (2 * x.1) most) (Ok (Number (length text) ((most - x.1) % most), after_word text)) (fails Range text) P (λ e. (mod-lt (most - x.1) some, after_good text good)) (λ e. tt))
    (λ e. cond_both (ltb (2 * x.1) most) (Ok (Number (length text) x.1, after_word text)) (fails Range text) P (λ e. (omega (arith, ltb-true (2 * x.1) most e), after_good text good)) (λ e. tt))

pub limit_some : (bits : ℕ) → 0 < limit bits
limit_some bits =
    let P : ℕ → Type 0 = λ n. 0 < n in
    cond_both (eqb bits 16) (2 ^ 16) (cond (eqb bits 32) (2 ^ 32) (cond (eqb bits 64) (2 ^ 64) (2 ^ 8))) P (λ e. omega arith)
    (λ e. cond_both (eqb bits 32) (2 ^ 32) (cond (eqb bits 64) (2 ^ 64) (2 ^ 8)) P (λ e. omega arith)
    (λ e. cond_both (eqb bits 64) (2 ^ 64) (2 ^ 8) P (λ e. omega arith) (λ e. omega arith)))

-- ---- strings

-- a byte and the rest
abbrev ByteRead : Option ℕ × List ℕ → Type 0
ByteRead x = AreBytes x.1 × IfSome x.0 (λ c. c < 256)

letter_if : (text rest : List ℕ) (o : Option ℕ) → AreBytes rest → IfSome o (λ c. c < 256) → IfOk (letter_at text rest o) ByteRead
letter_if text rest None good low = tt
letter_if text rest (Some c) good low = (good, low)

escape_value_low : (c : ℕ) → IfSome (escape_value c) (λ b. b < 256)
escape_value_low c =
    let P : Option ℕ → Type 0 = λ o. IfSome o (λ b. b < 256) in
    cond_both (eqb c 34) (Some 34) (cond (eqb c 92) (Some 92) (cond (eqb c 110) (Some 10) (cond (eqb c 116) (Some 9) (cond (eqb c 114) (Some 13) None)))) P (λ e. omega arith)
    (λ e. cond_both (eqb c 92) (Some 92) (cond (eqb c 110) (Some 10) (cond (eqb c 116) (Some 9) (cond (eqb c 114) (Some 13) None))) P (λ e. omega arith)
    (λ e. cond_both (eqb c 110) (Some 10) (cond (eqb c 116) (Some 9) (cond (eqb c 114) (Some 13) None)) P (λ e. omega arith)
    (λ e. cond_both (eqb c 116) (Some 9) (cond (eqb c 114) (Some 13) None) P (λ e. omega arith)
    (λ e. cond_both (eqb c 114) (Some 13) None P (λ e. omega arith) (λ e. tt)))))

hex_low : (h l : ℕ) → (is_hex h && is_hex l) ≡ true → digit_value h * 16 + digit_value l < 256
hex_low h l e =
    let both = and_parts (is_hex h) (is_hex l) e in
    omega (arith, ltb-true (digit_value h) 16 both.0, ltb-true (digit_value l) 16 both.1)

hex_if : (text cs : List ℕ) → AreBytes cs → IfOk (hex_at text cs) ByteRead
hex_if text [] good = tt
hex_if text (h ∷ []) good = tt
hex_if text (h ∷ l ∷ rest) good =
    cond_both (is_hex h && is_hex l) (Ok (Some (digit_value h * 16 + digit_value l), rest)) (wrong_escape text) (λ r. IfOk r ByteRead) (λ e. (good.1.1, hex_low h l e)) (λ e. tt)

escape_if : (text : List ℕ) → AreBytes text → IfOk (escape_at text) ByteRead
escape_if [] good = tt
escape_if (c ∷ cs) good =
    cond_both (eqb c 120) (hex_at (c ∷ cs) cs) (letter_at (c ∷ cs) cs (escape_value c)) (λ r. IfOk r ByteRead) (λ e. hex_if (c ∷ cs) cs good.1) (λ e. letter_if (c ∷ cs) cs (escape_value c) good.1 (escape_value_low c))

char_if : (text : List ℕ) → AreBytes text → IfOk (char_at text) ByteRead
char_if [] good = tt
char_if (c ∷ cs) good =
    let P : Read (Option ℕ) → Type 0 = λ r. IfOk r ByteRead in
    cond_both (eqb c 34) (Ok (None, cs)) (cond (eqb c 92) (escape_at cs) (Ok (Some c, cs))) P (λ e. (good.1, tt))
    (λ e. cond_both (eqb c 92) (escape_at cs) (Ok (Some c, cs)) P (λ e. escape_if cs good.1) (λ e. (good.1, good.0)))

chars_push : (cs : List ℕ) (c : ℕ) → AreChars cs → 0 < c → c < 256 → AreChars (cs ++ c ∷ [])
chars_push [] c all some low = (some, low, tt)
chars_push (k ∷ cs) c all some low = (all.0, all.1, chars_push cs c all.2 some low)

abbrev StringKept : ℕ → List ℕ → Type 0
StringKept n cs = AreChars cs × (length cs < n)

below_if : (n : ℕ) (whole so_far : List ℕ) (r : Read (Option ℕ)) → StringKept n so_far → IfOk r ByteRead → IfOk (char_below n whole so_far r) (λ x. AreBytes x.1 × IfSome x.0 (λ c. StringKept n (so_far ++ c ∷ [])))
below_if n whole so_far (Err fault) kept h = tt
below_if n whole so_far (Ok (None, rest)) kept h = (h.0, tt)
below_if n whole so_far (Ok (Some c, rest)) kept h =
    cond_both (eqb c 0 || leb n (length so_far + 1)) (fails Range whole) (Ok (Some c, rest)) (λ r. IfOk r (λ x. AreBytes x.1 × IfSome x.0 (λ c. StringKept n (so_far ++ c ∷ [])))) (λ e. tt)
    (λ e. let no = or_parts (eqb c 0) (leb n (length so_far + 1)) e in
    let ne = eqb-false c 0 no.0 in
    let long = length-append so_far (c ∷ []) in
    (h.0, (chars_push so_far c kept.0 (omega arith) h.1, omega (arith, leb-false n (length so_far + 1) no.1, long))))

-- ---- what is repeated

maybe_if : {A : Type 0} (o : Option A) (so_far : List A) (rest : List ℕ) (f : A → Read (List A)) (Q : List A × List ℕ → Type 0) → Q (so_far, rest) → IfSome o (λ a. IfOk (f a) Q) → IfOk (maybe o (Ok (so_far, rest)) f) Q
maybe_if None so_far rest f Q done more = done
maybe_if (Some a) so_far rest f Q done more = more

pub repeated_if : {A : Type 0} (step : List A → List ℕ → Read (Option A)) (I : List A → Type 0)
    → ((so_far : List A) (text : List ℕ) → I so_far → AreBytes text → IfOk (step so_far text) (λ x. AreBytes x.1 × IfSome x.0 (λ a. I (so_far ++ a ∷ []))))
    → (k : ℕ) (so_far : List A) (text : List ℕ) → I so_far → AreBytes text → IfOk (repeat step k so_far text) (λ x. I x.0 × AreBytes x.1)
unfolding repeat
repeated_if {A = A} step I each zero so_far text i good = tt
repeated_if {A = A} step I each (suc k) so_far text i good =
    bind_if (step so_far text) (λ x. maybe x.0 (Ok (so_far, x.1)) (λ a. repeat step k (so_far ++ a ∷ []) x.1)) (λ x. AreBytes x.1 × IfSome x.0 (λ a. I (so_far ++ a ∷ []))) (λ x. I x.0 × AreBytes x.1) (each so_far text i good)
    (λ x h. maybe_if x.0 so_far x.1 (λ a. repeat step k (so_far ++ a ∷ []) x.1) (λ x. I x.0 × AreBytes x.1) (i, h.0)
    (some_map x.0 (λ a. I (so_far ++ a ∷ [])) (λ a. IfOk (repeat step k (so_far ++ a ∷ []) x.1) (λ x. I x.0 × AreBytes x.1)) h.1 (λ a j. repeated_if step I each k (so_far ++ a ∷ []) x.1 j h.0)))

pub string_if : (n : ℕ) (text : List ℕ) → 1 ≤ n → AreBytes text → IfOk (string_at n text) (λ x. (AreChars (chars x.0) × (length (chars x.0) < n)) × AreBytes x.1)
unfolding string_at
string_if n text some good =
    let Q : Value × List ℕ → Type 0 = λ x. (AreChars (chars x.0) × (length (chars x.0) < n)) × AreBytes x.1 in
    bind_if (mark_at 34 text) (λ inside. repeat (string_char n text) (length inside) [] inside >>= λ x. Ok (Text x.0, x.1)) AreBytes Q (mark_if 34 text good)
    (λ inside good'. bind_if (repeat (string_char n text) (length inside) [] inside) (λ x. Ok (Text x.0, x.1)) (λ x. StringKept n x.0 × AreBytes x.1) Q
    (repeated_if (string_char n text) (StringKept n) (λ so_far rest kept good. below_if n text so_far (char_at rest) kept (char_if rest good)) (length inside) [] inside (tt, omega arith) good')
    (λ x h. h))

-- ---- addresses

first_bytes : (o : Option (List ℕ)) (c k : ℕ) → c < 256 → IfSome o (λ bs. AreBytes bs × (length bs ≡ k)) → IfSome (option_map (λ (bytes : List ℕ). c ∷ bytes) o) (λ bs. AreBytes bs × (length bs ≡ suc k))
first_bytes None c k low all = tt
first_bytes (Some bs) c k low all = ((low, all.0), omega (arith, all.1))

first_if : (o : Option (ℕ × List ℕ)) (more : List ℕ → Option (List ℕ)) (k : ℕ) → IfSome o (λ x. x.0 < 256) → ((rest : List ℕ) → IfSome (more rest) (λ bs. AreBytes bs × (length bs ≡ k))) → IfSome (with_first o more) (λ bs. AreBytes bs × (length bs ≡ suc k))
first_if None more k low each = tt
first_if (Some x) more k low each = first_bytes (more x.1) x.0 k low (each x.1)

group_if : (text : List ℕ) → IfSome (group_in text) (λ x. x.0 < 256)
group_if [] = tt
group_if (a ∷ []) = cond_both (is_hex a) (Some (digit_value a, [])) None (λ o. IfSome o (λ x. x.0 < 256)) (λ e. omega (arith, ltb-true (digit_value a) 16 e)) (λ e. tt)
group_if (a ∷ b ∷ rest) =
    let two : ℕ × List ℕ = (digit_value a * 16 + digit_value b, rest) in
    let one : ℕ × List ℕ = (digit_value a, b ∷ rest) in
    cond_both (is_hex a) (Some (cond (is_hex b) two one)) None (λ o. IfSome o (λ x. x.0 < 256))
    (λ e. cond_both (is_hex b) two one (λ x. x.0 < 256) (λ e'. omega (arith, ltb-true (digit_value a) 16 e, ltb-true (digit_value b) 16 e')) (λ e'. omega (arith, ltb-true (digit_value a) 16 e)))
    (λ e. tt)

next_group_if : (text : List ℕ) → IfSome (next_group_in text) (λ x. x.0 < 256)
next_group_if [] = tt
next_group_if (c ∷ cs) = cond_both (eqb c 58) (group_in cs) None (λ o. IfSome o (λ x. x.0 < 256)) (λ e. group_if cs) (λ e. tt)

groups_if : (k : ℕ) (text : List ℕ) → IfSome (groups_in k text) (λ bs. AreBytes bs × (length bs ≡ k))
groups_if zero [] = (tt, refl)
groups_if zero (c ∷ cs) = tt
groups_if (suc k) text = first_if (next_group_in text) (groups_in k) k (next_group_if text) (λ rest. groups_if k rest)

address_is_if : (text : List ℕ) (o : Option (List ℕ)) → AreBytes text → IfSome o (λ bs. AreBytes bs × (length bs ≡ 6)) → IfOk (address_is text o) (λ x. (AreBytes (chars x.0) × (length (chars x.0) ≤ 6)) × AreBytes x.1)
address_is_if text None good all = tt
address_is_if text (Some bs) good all = ((all.0, omega (arith, all.1)), after_good text good)

pub address_if : (text : List ℕ) → AreBytes text → IfOk (address_at text) (λ x. (AreBytes (chars x.0) × (length (chars x.0) ≤ 6)) × AreBytes x.1)
address_if text good = address_is_if text (address_in (word text)) good (first_if (group_in (word text)) (groups_in 5) 5 (group_if (word text)) (λ rest. groups_if 5 rest))

-- ---- members

abbrev pub MemberRead : (List (ℕ × Value) → Type 0) → List (ℕ × Value) → (ℕ × Value) × List ℕ → Type 0
MemberRead I given x = AreBytes x.1 × I (given ++ x.0 ∷ [])

member_if : (close : ℕ) (item : List (ℕ × Value) → List ℕ → Read (ℕ × Value)) (I : List (ℕ × Value) → Type 0)
    → ((given : List (ℕ × Value)) (text : List ℕ) → I given → AreBytes text → IfOk (item given text) (MemberRead I given))
    → (given : List (ℕ × Value)) (text : List ℕ) → I given → AreBytes text → IfOk (member_at close item given text) (λ x. AreBytes x.1 × IfSome x.0 (λ a. I (given ++ a ∷ [])))
member_if close item I each given text i good =
    let Q : Option (ℕ × Value) × List ℕ → Type 0 = λ x. AreBytes x.1 × IfSome x.0 (λ a. I (given ++ a ∷ [])) in
    let rest = skip_blanks text in
    let good' : AreBytes rest = skip_good text good in
    cond_both (starts close rest) (Ok (None, drop 1 rest)) (item given rest >>= λ x. Ok (Some x.0, x.1)) (λ r. IfOk r Q) (λ e. (bytes_drop 1 rest good', tt))
    (λ e. bind_if (item given rest) (λ x. Ok (Some x.0, x.1)) (MemberRead I given) Q (each given rest i good') (λ x h. h))

pub between_if : (first close : ℕ) (item : List (ℕ × Value) → List ℕ → Read (ℕ × Value)) (I : List (ℕ × Value) → Type 0) → I []
    → ((given : List (ℕ × Value)) (text : List ℕ) → I given → AreBytes text → IfOk (item given text) (MemberRead I given))
    → (text : List ℕ) → AreBytes text → IfOk (between first close item text) (λ x. I x.0 × AreBytes x.1)
unfolding between
between_if first close item I none each text good =
    bind_if (mark_at first text) (λ inside. repeat (member_at close item) (length inside) [] inside) AreBytes (λ x. I x.0 × AreBytes x.1) (mark_if first text good)
    (λ inside good'. repeated_if (member_at close item) I (member_if close item I each) (length inside) [] inside none good')

abbrev Any : ℕ → Type 0
Any i = Unit {0}

any_if : {E : Type 0} (r : Result ℕ E) → IfOk r Any
any_if (Ok i) = tt
any_if (Err e) = tt

-- a reader that keeps P
abbrev pub Keeps : (Value → Type 0) → Reader → Type 0
Keeps P reader = (text : List ℕ) → AreBytes text → IfOk (reader text) (λ x. P x.0 × AreBytes x.1)

pub field_if : (number : List ℕ → Option ℕ) (reader : ℕ → Reader) (P : ℕ → Value → Type 0) → ((i : ℕ) → Keeps (P i) (reader i))
    → (given : List (ℕ × Value)) (text : List ℕ) → Each P given → AreBytes text → IfOk (field_at number reader given text) (MemberRead (Each P) given)
unfolding field_at
field_if number reader P each given text all good =
    let Q = MemberRead (Each P) given in
    let behind = skip_blanks (after_word text) in
    bind_if (known_field text (word text) (number (word text))) (λ i. fresh text i given >>= λ j. mark_at 61 behind >>= λ after. reader j (skip_blanks after) >>= λ x. Ok ((j, x.0), x.1)) Any Q (any_if (known_field text (word text) (number (word text)))) (λ i h.
    bind_if (fresh text i given) (λ j. mark_at 61 behind >>= λ after. reader j (skip_blanks after) >>= λ x. Ok ((j, x.0), x.1)) Any Q (any_if (fresh text i given)) (λ j h.
    bind_if (mark_at 61 behind) (λ after. reader j (skip_blanks after) >>= λ x. Ok ((j, x.0), x.1)) AreBytes Q (mark_if 61 behind (skip_good (after_word text) (after_good text good))) (λ after good'.
    bind_if (reader j (skip_blanks after)) (λ x. Ok ((j, x.0), x.1)) (λ x. P j x.0 × AreBytes x.1) Q (each j (skip_blanks after) (skip_good after good')) (λ x h. (h.1, each_push P given j x.0 all h.0)))))

with_number_if : (number : Result ℕ Fault) (read : Read Value) (P : Value → Type 0) (given : List (ℕ × Value)) → Each (λ i. P) given → IfOk read (λ x. P x.0 × AreBytes x.1) → IfOk (with_number number read) (MemberRead (Each (λ i. P)) given)
with_number_if (Ok i) (Ok x) P given all h = (h.1, each_push (λ i. P) given i x.0 all h.0)
with_number_if (Ok i) (Err e) P given all h = tt
with_number_if (Err fault) (Ok x) P given all h = tt
with_number_if (Err fault) (Err later) P given all h = tt

element_value_if : (text : List ℕ) (read : Read Value) (Q : Value × List ℕ → Type 0) → IfOk read Q → IfOk (element_value text read) Q
element_value_if text (Ok x) Q h = cond_both (eqb (length x.1) (length text)) (Err (no_element text (number_in (word text)))) (Ok x) (λ r. IfOk r Q) (λ e. tt) (λ e. h)
element_value_if text (Err fault) Q h = cond_both (is_unexpected fault.why && eqb fault.left (length text)) (Err (no_element text (number_in (word text)))) (Err fault) (λ r. IfOk r Q) (λ e. tt) (λ e. tt)

indexed_if : (n : ℕ) (reader : Reader) (P : Value → Type 0) → Keeps P reader → (given : List (ℕ × Value)) (text : List ℕ) → Each (λ i. P) given → AreBytes text → IfOk (indexed_at n reader given text) (MemberRead (Each (λ i. P)) given)
indexed_if n reader P each given text all good =
    let Q = MemberRead (Each (λ i. P)) given in
    let behind = skip_blanks (after_word text) in
    let good' : AreBytes (after_index text) = skip_good (drop 1 behind) (bytes_drop 1 behind (skip_good (after_word text) (after_good text good))) in
    bind_if (index_at n given text (number_in (word text))) (λ i. reader (after_index text) >>= λ x. Ok ((i, x.0), x.1)) Any Q (any_if (index_at n given text (number_in (word text)))) (λ i h.
    bind_if (reader (after_index text)) (λ x. Ok ((i, x.0), x.1)) (λ x. P x.0 × AreBytes x.1) Q (each (after_index text) good') (λ x h. (h.1, each_push (λ i. P) given i x.0 all h.0)))

element_if : (n : ℕ) (reader : Reader) (P : Value → Type 0) → Keeps P reader → (given : List (ℕ × Value)) (text : List ℕ) → Each (λ i. P) given → AreBytes text → IfOk (element_at n reader given text) (MemberRead (Each (λ i. P)) given)
unfolding element_at
element_if n reader P each given text all good =
    let one = indexed_at n reader given text in
    let other = with_number (number_at n given text (next_number given)) (element_value text (reader text)) in
    cond_both (has_index text) one other (λ r. IfOk r (MemberRead (Each (λ i. P)) given)) (λ e. indexed_if n reader P each given text all good)
    (λ e. with_number_if (number_at n given text (next_number given)) (element_value text (reader text)) P given all (element_value_if text (reader text) (λ x. P x.0 × AreBytes x.1) (each text good)))

pub array_if : (n : ℕ) (reader : Reader) (P : Value → Type 0) → Keeps P reader → Keeps (λ v. Each (λ i. P) (members v)) (λ text. group text (λ ms. ms) (between 91 93 (element_at n reader) text))
array_if n reader P each text good =
    let I = Each (λ i. P) in
    bind_if (between 91 93 (element_at n reader) text) (λ x. Ok (Group (length text) (pack x.0), x.1)) (λ x. I x.0 × AreBytes x.1) (λ x. I (members x.0) × AreBytes x.1) (between_if 91 93 (element_at n reader) I tt (element_if n reader P each) text good)
    (λ x h. (subst I (sym (unpack_pack x.0)) h.0, h.1))
